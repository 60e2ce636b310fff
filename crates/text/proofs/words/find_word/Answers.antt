use Rattle.std.proofs.Common.{rules, ◌∙◌}
use borrow.Author.Tests.{tests}
use Rattle.std.proofs.lemmas.Iterator.{YieldsList-from_slice}
use Rattle.std.proofs.lemmas.Iterator.Search.{find_from_yields_List}
use Rattle.std.specs.Str.{bytes_eq}
use Rattle.text.proofs.Naming.{named_found}
use Rattle.text.proofs.words.find_word.Goals as goal

pub returns : goal.returns
returns g c =
    let s = g.W.Spelled.spelling in
    c.copied.ensures ∙ find_from_yields_List (λ w. bytes_eq c.args.text.now (s w)) _ _ c.find.result c.find.ensures.ran (YieldsList-from_slice c.args.words.now (cc)) (λ x b q k. search (rules, tests)) ∙ named_found s c.args.text.now c.args.words.now
