use Rattle.std.proofs.Common.{length, ◌∙◌, arith}
use Rattle.sets.specs.Masks.{bit}
use Rattle.colouring.proofs.Steps.{degree_is}
use Rattle.colouring.proofs.graph.Graph.degree.Goals as goal

pub returns : goal.returns
returns c =
    let g = c.args.self.now in
    c.size.ensures ∙ degree_is (length g.rows.now) (bit c.args.row) (bit g.left) (bit c.intersection.result) (omega (arith, g.few)) c.intersection.ensures g.within
