use Rattle.std.proofs.Common.{◌≡◌, ℕ, ◌<◌, false, not, ◌&&◌}
use Rattle.equations.specs.Equations.{held}
use Rattle.verdict.proofs.questions.find_outside.Given as goal

abbrev pub invariant-loop-l : goal.invariant-loop-l
invariant-loop-l l = (e : ℕ × ℕ) → e.0 < l.l → (held l.set e && not (held l.allowed e)) ≡ false
