use Rattle.std.proofs.Common.{rules}
use Rattle.machine.proofs.Frames.{write_all_step}
use Rattle.machine.proofs.cells.write_arguments.Goals as goal

pub loop-i-preserved : goal.loop-i-preserved
loop-i-preserved g c =
    record {
      cells = rw (c.write.ensures.cells, c.loop-i.invariant.cells) (write_all_step c.args.first c.args.args.now (g.F.Frame.cells c.args.frame.now) c.loop-i.i c.index-args-i.result c.loop-i-test.true c.index-args-i.is);
      wide = search rules;
    }
