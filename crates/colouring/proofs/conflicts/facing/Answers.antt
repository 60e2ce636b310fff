use Rattle.std.proofs.Common.{arith}
use Rattle.sets.specs.Masks.{bit}
use Rattle.colouring.proofs.Rows.{column_all}
use Rattle.colouring.proofs.conflicts.facing.Goals as goal

pub returns : goal.returns
returns c = column_all c.args.table.now c.args.u c.loop-v.v (bit c.loop-v.set) (omega arith) c.loop-v.invariant
