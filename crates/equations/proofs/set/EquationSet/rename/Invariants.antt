use Rattle.std.proofs.Common.{◌≡◌, ℕ, not, ◌&&◌, ◌||◌, eqb}
use Rattle.sets.specs.Masks.{bit}
use Rattle.equations.proofs.Rows.{Worked}
use Rattle.equations.proofs.set.EquationSet.rename.Given as goal

abbrev pub invariant-loop-word : goal.invariant-loop-word
invariant-loop-word l =
    Worked (λ k old new. (v : ℕ) → bit new v ≡ ((bit old v && not (eqb v l.d)) || (eqb v l.a && bit old l.d))) l.initial.word-items l.word-items l.word-index
