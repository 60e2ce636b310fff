use Rattle.std.proofs.Common.{◌≡◌, get_or}
use Rattle.sets.specs.Masks.{bit, count, greatest}
use Rattle.sets.proofs.mask.greatest_size.Given as goal

abbrev pub invariant-loop-word : goal.invariant-loop-word
invariant-loop-word l = l.most ≡ greatest (λ n. count 64 (bit (get_or l.words n 0))) l.word-index
