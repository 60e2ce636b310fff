use Rattle.std.proofs.Common.{arith}
use Rattle.equations.proofs.Rows.{part_reach}
use Rattle.equations.proofs.set.EquationSet.before_node.Goals as goal

pub back_moves-requires : goal.back_moves-requires
back_moves-requires c = part_reach c.args.moves.now c.args.row.ins c.args.row.outs (omega arith) c.requires.moves
