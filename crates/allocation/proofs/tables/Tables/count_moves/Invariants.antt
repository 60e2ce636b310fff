use Rattle.std.proofs.Common.{◌≡◌, ◌+◌, ◌*◌, ◌≤◌, map, drop}
use Rattle.allocation.specs.Allocations.{line_at, rows_in, moves_in, allocation_of}
use Rattle.allocation.specs.Lines.{lines_moves, move_count}
use Rattle.allocation.proofs.tables.Tables.count_moves.Given as goal

-- what is left of the rows gives the rest
abbrev pub invariant-loop-row : goal.invariant-loop-row
invariant-loop-row l = (l.count + lines_moves (map (line_at (moves_in l.self)) (drop l.row-index (rows_in l.self))) ≡ move_count (allocation_of l.self)) × (l.count ≤ (l.row-index + 1) * 1024)
