use Rattle.std.proofs.Common.{map, take}
use Rattle.places.specs.Publish.{published_line}
use Rattle.places.specs.Steps.{Filled, place_of}
use Rattle.places.proofs.layout.Layout.publish_nodes.Given as goal

-- the lines of the nodes so far are there
abbrev pub invariant-loop-node : goal.invariant-loop-node
invariant-loop-node l = Filled l.initial.tables l.tables (map (published_line l.self.registers (place_of l.self)) (take l.node-index l.nodes))
