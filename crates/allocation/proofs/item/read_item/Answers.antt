use Rattle.std.proofs.Common.{map, Some, ap, ◌∙◌}
use Rattle.text.specs.Fields.{shape, by_word}
use Rattle.allocation.specs.Words.{word_name, words}
use Rattle.allocation.specs.Items.{arity, operands_of}
use Rattle.allocation.proofs.OneLine.{item_refused, item_known}
use Rattle.allocation.proofs.ItemLaws.{item_read_fits}
use Rattle.allocation.proofs.item.read_item.Goals as goal

pub returns-in_default : goal.returns-in_default
unfolding words
returns-in_default c = record { value = item_refused c.args.h c.args.line.now.bytes.now c.in_default.ensures.few; fits = tt }

pub returns : goal.returns
unfolding words
returns c =
    let is = c.read_operands.ensures ∙ ap (λ fs. by_word word_name words arity (operands_of c.args.h) (Some c.in-Some.word) fs) (ap (map shape) c.as_slice.ensures.value ∙ c.in-Some.ensures.rest)
    ∙ item_known c.args.h c.args.line.now.bytes.now c.in-Some.word c.in-Some.ensures.word in
    record { value = is; fits = item_read_fits c.args.h c.requires c.args.line.now.bytes.now c.read_operands.result is }
