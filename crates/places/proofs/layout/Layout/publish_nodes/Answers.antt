use Rattle.std.proofs.Common.{arith}
use Rattle.places.specs.Steps.{place_of}
use Rattle.places.proofs.Filling.{nodes_open, nodes_room, nodes_step}
use Rattle.places.proofs.layout.Layout.publish_nodes.Goals as goal

pub publish_node-requires-clause-ready : goal.publish_node-requires-clause-ready
publish_node-requires-clause-ready c =
    let y = c.args.self.now in
    nodes_open y.registers (place_of y) c.args.nodes.now c.args.tables.now c.loop-node.tables c.loop-node.node-index c.loop-node.invariant y c.requires.ready (omega arith)

pub publish_node-requires-clause-room : goal.publish_node-requires-clause-room
publish_node-requires-clause-room c =
    let y = c.args.self.now in
    nodes_room y.registers (place_of y) c.args.nodes.now c.args.tables.now c.loop-node.tables c.loop-node.node-index c.loop-node.invariant (omega arith) c.requires.short

pub loop-node-preserved : goal.loop-node-preserved
loop-node-preserved c =
    let y = c.args.self.now in
    nodes_step y.registers (place_of y) c.args.nodes.now c.args.tables.now c.loop-node.tables c.loop-node.node-index c.loop-node.invariant c.publish_node.new.tables (omega arith) c.publish_node.ensures
