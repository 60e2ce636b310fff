use Rattle.std.proofs.Common.{rules}
use Rattle.machine.proofs.Frames.{moves_step}
use Rattle.machine.proofs.cells.make_moves.Goals as goal

pub loop-m-preserved : goal.loop-m-preserved
loop-m-preserved g c =
    record {
      moved = moves_step g.V.Kind.arithmetic c.args.moves.now c.loop-m.m-index (record { to = 0; from = 0 }) (g.F.Frame.cells c.args.frame.now) (g.F.Frame.cells c.loop-m.frame) (g.F.Frame.cells c.write.new.self) c.value_at-x.result c.loop-m-test.true c.loop-m.invariant.moved c.value_at-x.ensures c.write.ensures.cells;
      wide = search rules;
    }
