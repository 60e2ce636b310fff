use Rattle.colouring.proofs.Rows.{rows-zero}
use Rattle.colouring.proofs.conflicts.find_demands.Goals as goal

pub loop-node-init : goal.loop-node-init
loop-node-init c u v = rows-zero 48 u v
