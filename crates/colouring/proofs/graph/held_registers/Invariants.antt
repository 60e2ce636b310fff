use Rattle.std.proofs.Common.{◌≡◌, ℕ, ◌<◌}
use Rattle.sets.specs.Masks.{bit}
use Rattle.colouring.specs.Colouring.{held}
use Rattle.colouring.proofs.graph.held_registers.Given as goal

abbrev pub invariant-loop-u : goal.invariant-loop-u
invariant-loop-u l = (r : ℕ) → r < 64 → bit l.registers r ≡ held l.u (bit l.near) l.places r
