use Rattle.std.proofs.Common.{◌/◌, ◌≤◌, length, arith}
use Rattle.equations.proofs.Nodes.{sound_wider}
use Rattle.equations.proofs.flow.after_node.Goals as goal

pub after_node-requires : goal.after_node-requires
after_node-requires c =
    let room : c.args.nodes ≤ length c.args.memory.now / 64 = omega (arith, c.requires.room) in
    record {
      sound = sound_wider 64 64 c.args.nodes (length c.args.memory.now / 64) (omega arith) room c.args.node c.requires.sound;
      row = c.requires.row;
      moves = c.requires.moves;
    }
