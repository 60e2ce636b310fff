use Rattle.std.proofs.Common.{◌≡◌, ℕ, ◌||◌, length}
use Rattle.sets.specs.Masks.{bit}
use Rattle.source.specs.Nodes.{node_at}
use Rattle.loader.specs.Live.{live_sets, is_result}
use Rattle.colouring.specs.Colouring.{some}
use Rattle.colouring.proofs.conflicts.find_used.Given as goal

abbrev pub invariant-loop-node : goal.invariant-loop-node
invariant-loop-node l = (v : ℕ) → bit l.set v ≡ some (length l.yielded) (λ n. live_sets l.fn.source.live.now n v || is_result (node_at l.fn.source.nodes.now n) v)
