use Rattle.std.proofs.Common.{◌≡◌, ℕ, ◌<◌}
use Rattle.arrayvec.specs.ArrayVec.{array_vec_len}
use Rattle.sets.specs.Masks.{bit}
use Rattle.colouring.specs.Colouring.{apart, rows}
use Rattle.colouring.proofs.conflicts.find_conflicts.Given as goal

abbrev pub invariant-loop-u : goal.invariant-loop-u
invariant-loop-u l = (array_vec_len l.table ≡ l.u) × ((u v : ℕ) → u < l.u → rows l.table.items u v ≡ apart (rows l.demands) (bit l.arriving) u v)
