use Rattle.std.proofs.Common.{length, take, refl, ap, ◌∙◌, arith, rules}
use native.Mathlib.Nat.{sub-zero}
use Rattle.machine.specs.Steps.{Standing, standing}
use Rattle.machine.specs.Run.{code_source, code_allocation}
use Rattle.machine.proofs.Ranges.{reads_part}
use Rattle.machine.proofs.Runs.{granted, finished}
use Rattle.machine.proofs.run.run.Goals as goal

pub make_moves-requires-clause-below : goal.make_moves-requires-clause-below
make_moves-requires-clause-below g c =
    let code = c.args.code.now in
    let wide = (granted (code_source code) (code_allocation code) (length c.args.args.now) (length (g.F.Frame.cells c.args.frame.now)) (search rules)).1 in
    reads_part code.locations.registers code.locations.slots (length (g.F.Frame.cells c.write_arguments.new.frame)) code.moves.now c.moves_in.result.now 0 code.entry c.moves_in.ensures c.requires.moves (omega (arith, wide, c.write_arguments.ensures.wide)) c.requires.entry

pub returns-clause-answered : goal.returns-clause-answered
returns-clause-answered g c =
    let code = c.args.code.now in
    let S = standing g.H.Host.state g.F.Frame.cells in
    let b : Standing g.row.V.Denot g.H.Host.State = record { at = record { node = 0; nodes = 0; moves = 0; entries = 0 }; host = g.H.Host.state c.args.host.now; cells = g.F.Frame.cells c.write_arguments.new.frame; list = c.args.list.now } in (
      search rules,
      finished g.V.Kind.arithmetic g.H.Host.means code c.args.budget c.args.args.now (g.F.Frame.cells c.args.frame.now) c.moves_in.result.now b (S c.make_moves.new.self) c.drive-outcome.result (S c.drive-outcome.new.self) refl c.write_arguments.ensures.cells (c.moves_in.ensures ∙ ap (λ n. take n code.moves.now) (sub-zero code.entry)) c.make_moves.ensures.moved (search rules) c.report.result c.report.ensures _ _ _ (search rules) (search rules) (search rules),
    )
