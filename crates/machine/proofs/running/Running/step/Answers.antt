use Rattle.std.proofs.Common.{◌≡◌, length, sym, ap, ◌∙◌, subst, arith, rules}
use Rattle.allocation.specs.Allocations.{line_at}
use Rattle.allocation.specs.Ranges.{row_at}
use Rattle.allocation.specs.Lines.{edge_moves}
use Rattle.machine.specs.declared.code.Code.{Code}
use Rattle.machine.specs.Steps.{standing, Stepped}
use Rattle.machine.proofs.Ranges.{row_here, reads_edge}
use Rattle.machine.proofs.Steps.{done_wide, stepped_end, stepped_edge}
use Rattle.machine.proofs.running.Running.step.Goals as goal

pub main_line-requires-clause-fits : goal.main_line-requires-clause-fits
main_line-requires-clause-fits g c = rw c.make_moves.ensures.same.code (row_here c.args.self.now.code c.args.self.now.at.node c.requires.in_range.runnable c.requires.in_range.node).main

pub returns-in_err-edge-clause-stepped : goal.returns-in_err-edge-clause-stepped
returns-in_err-edge-clause-stepped g c =
    let code = c.args.self.now.code in
    let S = standing g.H.Host.state g.F.Frame.cells in
    subst (λ r. Stepped g.V.Kind.arithmetic g.H.Host.means code (S c.args.self.now) r (S c.main_line.new.self)) (sym c.from_residual.ensures) (stepped_end g.V.Kind.arithmetic g.H.Host.means code (S c.args.self.now) (S c.make_moves.new.self) c.args.node c.moves_in-ins.result.now c.requires.node (search rules) c.make_moves.ensures.moved c.make_moves.ensures.wide c.requires.in_range c.requires.room c.in_err-edge.field-0.0 (S c.main_line.new.self) (search rules))

pub moves_on-outs-requires : goal.moves_on-outs-requires
moves_on-outs-requires g c =
    let fit = row_here c.args.self.now.code c.args.self.now.at.node c.requires.in_range.runnable c.requires.in_range.node in
    let same = c.main_line.ensures.same.code ∙ c.make_moves.ensures.same.code in
    record { outs = fit.outs; alts = fit.alts; end = omega (arith, fit.end, ap (λ (k : Code). length k.moves.now) same) }

pub make_moves-requires-2-clause-below : goal.make_moves-requires-2-clause-below
make_moves-requires-2-clause-below g c =
    let code = c.args.self.now.code in
    let at = c.args.self.now.at.node in
    let range = c.requires.in_range in
    let row = row_at code.rows.now at in
    let same : c.main_line.new.self.code ≡ code = c.main_line.ensures.same.code ∙ c.make_moves.ensures.same.code in
    let outs : c.moves_on-outs.result.now ≡ edge_moves (line_at code.moves.now row) c.in_ok-edge.edge = rw same at c.moves_on-outs.ensures in
    reads_edge code.locations.registers code.locations.slots (length (g.F.Frame.cells c.main_line.new.self.frame.now)) code.moves.now c.moves_on-outs.result.now row c.in_ok-edge.edge outs range.runnable.moves (omega (arith, range.cells, c.make_moves.ensures.wide, done_wide g.V.Kind.arithmetic g.H.Host.means _ _ _ _ c.main_line.ensures.done)) (row_here code at range.runnable range.node)

pub returns-clause-stepped : goal.returns-clause-stepped
returns-clause-stepped g c =
    let code = c.args.self.now.code in
    let S = standing g.H.Host.state g.F.Frame.cells in
    let same : c.main_line.new.self.code ≡ code = c.main_line.ensures.same.code ∙ c.make_moves.ensures.same.code in
    let outs : c.moves_on-outs.result.now ≡ edge_moves (line_at code.moves.now (row_at code.rows.now c.args.self.now.at.node)) c.in_ok-edge.edge = rw same at c.moves_on-outs.ensures in
    stepped_edge g.V.Kind.arithmetic g.H.Host.means code (S c.args.self.now) (S c.make_moves.new.self) c.args.node c.moves_in-ins.result.now c.requires.node (search rules) c.make_moves.ensures.moved c.make_moves.ensures.wide c.requires.in_range c.requires.room c.in_ok-edge.edge (S c.main_line.new.self) (search rules) c.moves_on-outs.result.now (S c.make_moves-2.new.self) outs c.make_moves-2.ensures.moved c.make_moves-2.ensures.wide c.next_node-self.result c.next_node-self.ensures
