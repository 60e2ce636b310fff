use Rattle.std.proofs.Common.{◌≡◌, ℕ, ◌||◌, get_or}
use Rattle.sets.specs.Masks.{bit}
use Rattle.equations.proofs.Rows.{Worked}
use Rattle.equations.proofs.set.EquationSet.join.Given as goal

abbrev pub invariant-loop-l : goal.invariant-loop-l
invariant-loop-l l = Worked (λ k old new. (v : ℕ) → bit new v ≡ (bit old v || bit (get_or l.other.words k 0) v)) l.initial.word-items l.word-items l.l
