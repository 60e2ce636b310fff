use Rattle.std.proofs.Common.{◌≡◌, ◌≤◌, take, vec_items, vec_len, vec_capacity}
use Rattle.source.proofs.table.Table.copy_from.Given as goal

abbrev pub invariant-loop-node : goal.invariant-loop-node
invariant-loop-node l = (vec_items l.self.nodes ≡ take l.node-index (vec_items l.other.nodes)) × (vec_len l.self.nodes ≡ l.node-index) × (256 ≤ vec_capacity l.self.nodes)
