use Rattle.sets.specs.Masks.{bit}
use Rattle.colouring.proofs.Rows.{Column}
use Rattle.colouring.proofs.conflicts.facing.Given as goal

abbrev pub invariant-loop-v : goal.invariant-loop-v
invariant-loop-v l = Column l.table l.u l.v (bit l.set)
