use Rattle.std.proofs.Common.{ap, ◌∙◌}
use Rattle.equations.specs.Equations.{held, back_moves}
use Rattle.equations.proofs.Rows.{part_is}
use Rattle.equations.proofs.set.EquationSet.back_edge.Goals as goal

pub returns : goal.returns
returns c = c.back_moves.ensures ∙ ap (back_moves c.args.moves.now) (ap held c.copy_from_slice.ensures.after ∙ part_is c.args.memory.now c.args.next)
