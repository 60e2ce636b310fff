use Rattle.std.proofs.Common.{◌≡◌, length, take}
use Rattle.machine.specs.Machine.{write_all}
use Rattle.machine.proofs.cells.write_arguments.Given as goal

abbrev pub invariant-loop-i : goal.invariant-loop-i
invariant-loop-i g l = record {
  cells : g.F.Frame.cells l.frame ≡ write_all l.first (take l.i l.initial.args) (g.F.Frame.cells l.initial.frame);
  wide : length (g.F.Frame.cells l.frame) ≡ length (g.F.Frame.cells l.initial.frame);
}
