use Rattle.std.proofs.Common.{◌≡◌, ℕ, ◌*◌, ◌^◌, ◌<◌, ◌≤◌, length, get_or}
use Rattle.equations.proofs.Visits.{Visited}
use Rattle.equations.proofs.flow.pass.Given as goal

abbrev pub invariant-loop-n : goal.invariant-loop-n
invariant-loop-n l =
    Visited l.candidate.nodes.now l.candidate.rows.now l.candidate.moves.now l.initial.memory l.memory l.n l.changed
    × ((k : ℕ) → 64 * length l.candidate.nodes.now ≤ k → get_or l.memory k 0 ≡ get_or l.initial.memory k 0)
    × ((k : ℕ) → get_or l.memory k 0 < 2 ^ 64)
