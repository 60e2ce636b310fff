use Rattle.std.proofs.Common.{length, arith}
use Rattle.sets.specs.Masks.{bit}
use Rattle.colouring.specs.Colouring.{degree, rows, under}
use Rattle.colouring.proofs.Searching.{busiest_below}
use Rattle.colouring.proofs.Steps.{lowest_below}
use Rattle.colouring.proofs.graph.Graph.next.Goals as goal

pub returns-in-None-clause-within : goal.returns-in-None-clause-within
returns-in-None-clause-within c =
    let g = c.args.self.now in
    let n = length g.rows.now in
    busiest_below (degree n (rows g.rows.now) (bit g.left)) n n (bit g.left) c.busiest.result (omega arith) c.busiest.ensures

pub returns-in_default-clause-within : goal.returns-in_default-clause-within
returns-in_default-clause-within c =
    let g = c.args.self.now in
    let n = length g.rows.now in
    lowest_below n (under n g.registers (rows g.rows.now) (bit g.left)) c.lowest_under.result c.lowest_under.ensures
