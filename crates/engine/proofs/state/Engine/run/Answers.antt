use Rattle.std.proofs.Common.{Option, sym, refl, subst, subst₂}
use Rattle.std.specs.Option.{option_map}
use Rattle.source.specs.Reading.{Source}
use Rattle.source.specs.Tables.{source_in}
use Rattle.allocation.specs.Allocations.{Allocation, allocation_of}
use Rattle.machine.specs.declared.code.Code.{Code}
use Rattle.machine.specs.Run.{Answered}
use Rattle.engine.specs.declared.standing.Standing as standing
use Rattle.engine.specs.Calls.{RunMade}
use Rattle.engine.proofs.Running.{runnable, same_source, same_allocation, run_standing}
use Rattle.engine.proofs.state.Engine.run.Goals as goal

pub run-requires : goal.run-requires
run-requires g c =
    let e = c.args.self.now in
    let x = c.in-Some.standing in
    runnable x.source e.source e.tables x.placed (e.accepted x c.in-Some.is) (record { source = x.source; locations = c.heading.result; entry = c.count_entry.result; nodes = c.nodes.result; rows = c.rows.result; moves = c.moves.result })
    refl c.heading.ensures c.count_entry.ensures c.nodes.ensures c.rows.ensures c.moves.ensures

pub returns : goal.returns
returns g c =
    let e = c.args.self.now in
    let x = c.in-Some.standing in
    let code : Code = record { source = x.source; locations = c.heading.result; entry = c.count_entry.result; nodes = c.nodes.result; rows = c.rows.result; moves = c.moves.result } in
    let K = g.V.Kind.arithmetic in
    let E = g.H.Host.means in
    let h = g.H.Host.state c.args.host.now in
    let cs = g.F.Frame.cells c.args.frame.now in
    let h' = g.H.Host.state c.run.new.host in
    let cs' = g.F.Frame.cells c.run.new.frame in
    let answered =
    subst₂ (λ (s : Source) (a : Allocation). Answered K E s a c.args.budget c.args.args.now h cs c.args.list.now c.run.result h' cs' c.run.new.list) (same_source x.source e.source code refl c.nodes.ensures)
    (same_allocation e.tables code c.heading.ensures c.count_entry.ensures c.rows.ensures c.moves.ensures) c.run.ensures.answered in
    record {
      ran =
          subst (λ (o : Option standing.Standing). RunMade K E c.args.budget c.args.args.now h cs c.args.list.now (option_map (λ y. record { source = source_in y.source e.source; allocation = allocation_of e.tables; placed = y.placed }) o) c.run.result h' cs' c.run.new.list)
          (sym c.in-Some.is)
          (run_standing K E g.row.V.coded x.source e.source e.tables x.placed (e.accepted x c.in-Some.is) c.args.budget c.args.args.now h cs c.args.list.now c.run.result h' cs' c.run.new.list answered);
      lent = c.run.ensures.lent;
    }
