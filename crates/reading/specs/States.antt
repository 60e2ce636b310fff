-- What a reader has read.
use Rattle.std.specs.Prelude.{ℕ, List, [], map, length, take, drop}
use Rattle.std.specs.List.{between}
use Rattle.allocation.specs.declared.line.Move.{Move}
use Rattle.allocation.specs.declared.line.Row.{Row}
use Rattle.reading.specs.declared.stage.Stage.{Stage}
use Rattle.reading.specs.declared.stage.Stage.TheVariants.{Start, Before, Plain, Branch, Alternate, Return}
use Rattle.reading.specs.declared.reader.Reader.{Reader}
use Rattle.allocation.specs.Allocations.{Line, line_at, rows_in, moves_in}
use Rattle.reading.specs.Reading.{State, begun}

-- before node 0 all moves are entry moves
abbrev pub entry_so_far : Stage → ℕ → List Move → List Move
entry_so_far Start n moves = moves
entry_so_far Before n moves = take n moves
entry_so_far Plain n moves = take n moves
entry_so_far Branch n moves = take n moves
entry_so_far Alternate n moves = take n moves
entry_so_far Return n moves = take n moves

-- the moves from the last place on belong to the part that is being read
abbrev pub line_so_far : Stage → Row → List Move → Line
line_so_far Start row moves = begun []
line_so_far Before row moves = begun (drop row.ins moves)
line_so_far Plain row moves = record { ins = between row.ins row.outs moves; main = row.main; outs = drop row.outs moves; alts = [] }
line_so_far Branch row moves = record { ins = between row.ins row.outs moves; main = row.main; outs = drop row.outs moves; alts = [] }
line_so_far Alternate row moves = record { ins = between row.ins row.outs moves; main = row.main; outs = between row.outs row.alts moves; alts = drop row.alts moves }
line_so_far Return row moves = record { ins = between row.ins row.outs moves; main = row.main; outs = drop row.outs moves; alts = [] }

unfoldable pub entry_in : Reader → List Move
entry_in r = entry_so_far r.stage r.tables.entry (moves_in r.tables)

unfoldable pub done_in : Reader → List Line
done_in r = map (line_at (moves_in r.tables)) (rows_in r.tables)

unfoldable pub line_in : Reader → Line
line_in r = line_so_far r.stage r.row (moves_in r.tables)

abbrev pub state : Reader → State
state r = record { heading = r.tables.heading; stage = r.stage; entry = entry_in r; done = done_in r; line = line_in r; moves = length (moves_in r.tables) }
