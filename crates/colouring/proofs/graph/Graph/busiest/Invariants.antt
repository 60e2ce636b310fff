use Rattle.std.proofs.Common.{length}
use Rattle.sets.specs.Masks.{bit}
use Rattle.colouring.specs.Colouring.{degree, rows}
use Rattle.colouring.proofs.Steps.{BestSoFar}
use Rattle.colouring.proofs.graph.Graph.busiest.Given as goal

abbrev pub invariant-loop-v : goal.invariant-loop-v
invariant-loop-v l = BestSoFar (degree (length l.self.rows.now) (rows l.self.rows.now) (bit l.self.left)) (bit l.self.left) l.v l.best
