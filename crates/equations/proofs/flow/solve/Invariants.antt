use Rattle.std.proofs.Common.{◌≡◌, ℕ, ◌*◌, ◌≤◌, length, get_or}
use Rattle.sets.specs.Least.{Growing, room}
use Rattle.equations.specs.Equations.{memory_sets}
use Rattle.equations.specs.Steps.{step_of}
use Rattle.equations.proofs.flow.solve.Given as goal

abbrev pub invariant-loop : goal.invariant-loop
invariant-loop l =
    Growing (length l.candidate.nodes.now) (step_of l.candidate) (memory_sets l.memory)
    × ((k : ℕ) → 64 * length l.candidate.nodes.now ≤ k → get_or l.memory k 0 ≡ get_or l.initial.memory k 0)

abbrev pub decreases-loop : goal.decreases-loop
decreases-loop l = room l.memory
