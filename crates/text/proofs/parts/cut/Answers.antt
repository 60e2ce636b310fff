use Rattle.std.proofs.Common.{rules, eqb, sym, ◌∙◌}
use borrow.Author.Tests.{tests}
use Rattle.std.proofs.lemmas.Iterator.{YieldsList-from_slice}
use Rattle.std.proofs.lemmas.Iterator.Search.{position_from_yields_List}
use Rattle.text.proofs.Splits.{first_found, first_missing}
use Rattle.text.proofs.parts.cut.Goals as goal

pub returns-in-Some-clause-first : goal.returns-in-Some-clause-first
returns-in-Some-clause-first c =
    first_found c.args.sep c.args.s.now c.in-Some.n
    (sym c.in-Some.is ∙ position_from_yields_List (λ x. eqb x c.args.sep) _ _ _ c.position.ensures.ran (YieldsList-from_slice c.args.s.now (cc)) (λ x b q k. search (rules, tests)))

pub returns-in-None-clause-first : goal.returns-in-None-clause-first
returns-in-None-clause-first c =
    first_missing c.args.sep c.args.s.now
    (sym c.in-None.is ∙ position_from_yields_List (λ x. eqb x c.args.sep) _ _ _ c.position.ensures.ran (YieldsList-from_slice c.args.s.now (cc)) (λ x b q k. search (rules, tests)))
