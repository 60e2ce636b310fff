use Rattle.std.proofs.Common.{◌≡◌, ℕ, ◌+◌, length, take}
use Rattle.machine.specs.Machine.{move_all}
use Rattle.machine.proofs.cells.make_moves.Given as goal

abbrev pub invariant-loop-m : goal.invariant-loop-m
invariant-loop-m g l = record {
  moved : (k : ℕ) → move_all g.V.Kind.arithmetic (take l.m-index l.initial.moves) (record { cells = g.F.Frame.cells l.initial.frame; moves = k }) ≡ record { cells = g.F.Frame.cells l.frame; moves = k + l.m-index };
  wide : length (g.F.Frame.cells l.frame) ≡ length (g.F.Frame.cells l.initial.frame);
}
