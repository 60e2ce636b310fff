use Rattle.std.proofs.Common.{◌≡◌}
use Rattle.equations.specs.Equations.{held, back_moves}
use Rattle.equations.specs.Steps.{MovesReach}
use Rattle.equations.proofs.set.EquationSet.back_moves.Given as goal

-- the moves that are left are in reach, and with them the whole is done
abbrev pub invariant-loop-m : goal.invariant-loop-m
invariant-loop-m l =
    MovesReach l.m-iterator.iter.rest.now × (back_moves l.m-iterator.iter.rest.now (held l.self.words) ≡ back_moves l.moves (held l.initial.self.words))
