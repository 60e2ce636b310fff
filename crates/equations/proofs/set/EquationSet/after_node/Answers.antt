use Rattle.std.proofs.Common.{◌/◌, ◌<◌, length, arith, rules}
use Rattle.allocation.specs.Allocations.{line_at}
use Rattle.equations.specs.Equations.{held, memory_sets}
use Rattle.equations.proofs.Rows.{part_reach, zeros_hold}
use Rattle.equations.proofs.Nodes.{plain-below, after-plain, after_both, after_return}
use Rattle.equations.proofs.set.EquationSet.after_node.Goals as goal

pub after_branch-requires : goal.after_branch-requires
after_branch-requires c = record {
  yes = search rules;
  no = search rules;
  outs = part_reach c.args.moves.now c.args.row.outs c.args.row.alts (omega arith) c.requires.moves;
  alts = part_reach c.args.moves.now c.args.row.alts c.args.row.end (omega arith) c.requires.moves;
}

pub returns-in-Branch : goal.returns-in-Branch
returns-in-Branch c =
    search (
      rules,
      after_both (memory_sets c.args.memory.now) (line_at c.args.moves.now c.args.row) (held c.after_branch.new.self.words) c.in-Branch.condition c.in-Branch.first c.in-Branch.second c.in-Branch.yes c.in-Branch.no c.after_branch.ensures,
    )

pub returns-in-Return : goal.returns-in-Return
returns-in-Return c =
    search (
      rules,
      after_return (memory_sets c.args.memory.now) (line_at c.args.moves.now c.args.row) (held c.fill.new.self) c.in-Return.operand
          (zeros_hold (length c.args.self.now.words) c.fill.new.self (c.fill.ensures.after (λ y e. e))),
    )

pub back_edge-requires : goal.back_edge-requires
back_edge-requires c =
    let nodes = length c.args.memory.now / 64 in
    let next : c.in-Const.next < nodes = plain-below 64 nodes c.args.node c.in-Const.next c.requires.sound c.in-Const.is in
    record { at = omega arith; moves = part_reach c.args.moves.now c.args.row.outs c.args.row.alts (omega arith) c.requires.moves }

pub returns-in-Const : goal.returns-in-Const
returns-in-Const c =
    after-plain (memory_sets c.args.memory.now) (line_at c.args.moves.now c.args.row) (held c.back_edge.new.self.words) c.args.node c.in-Const.next c.in-Const.is c.back_edge.ensures
