use Rattle.std.proofs.Common.{ℕ, List, map, drop}
use Rattle.text.specs.Parts.{written}
use Rattle.allocation.specs.declared.line.Row.{Row}
use Rattle.allocation.specs.Allocations.{line_at, moves_in}
use Rattle.allocation.specs.Rendering.{lines_rows}
use Rattle.writer.specs.Sinks.{Puts}
use Rattle.writer.proofs.put_text.Given as goal

-- what comes of the rest comes of the whole
abbrev pub invariant-loop-row : goal.invariant-loop-row
invariant-loop-row g l =
    let all : List Row → List ℕ = λ rows. written (lines_rows l.tables.heading.registers (map (line_at (moves_in l.tables)) rows)) in
    (r : _) (t : _) → Puts g.S.Sink.room g.S.Sink.Takes (all (drop l.row-index l.rows)) l.sink r t → Puts g.S.Sink.room g.S.Sink.Takes (all l.rows) l.initial.sink r t
