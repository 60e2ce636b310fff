use Rattle.std.proofs.Common.{◌≡◌, ℕ}
use Rattle.source.specs.Nodes.{node_at}
use Rattle.loader.specs.Live.{live_sets}
use Rattle.colouring.specs.Colouring.{some, demands, rows}
use Rattle.colouring.proofs.conflicts.find_demands.Given as goal

abbrev pub invariant-loop-node : goal.invariant-loop-node
invariant-loop-node l = (u v : ℕ) → rows l.table u v ≡ some l.node-index (λ n. demands (live_sets l.source.live.now) (node_at l.node-items n) u v)
