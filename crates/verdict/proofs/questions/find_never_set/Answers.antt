use Rattle.std.proofs.Common.{rules}
use Rattle.equations.specs.Questions.{never_set}
use Rattle.verdict.proofs.Asking.{finds_by, never_set_allowed}
use Rattle.verdict.proofs.questions.find_never_set.Goals as goal

pub returns : goal.returns
returns c =
    finds_by c.args.set.now _ (never_set c.args.assigned) c.find_outside.result (search rules) (λ k. search rules)
    (never_set_allowed c.args.assigned c.mask_of.result c.below.result c.mask_of.ensures c.below.ensures c.without-words.result c.without-words.ensures) c.find_outside.ensures
