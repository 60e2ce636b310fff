use Rattle.std.proofs.Common.{◌≡◌, map}
use Rattle.text.specs.Parts.{fields_of}
use Rattle.text.specs.Lines.{lines_left}
use Rattle.reading.specs.Reading.{run}
use Rattle.reading.specs.States.{state}
use Rattle.reading.proofs.ReadLaws.{Sound}
use Rattle.reading.proofs.reader.Reader.read_lines.Given as goal

abbrev pub invariant-loop-line : goal.invariant-loop-line
invariant-loop-line l =
    (run l.nodes (map fields_of (lines_left l.lines)) (state l.self) l.lines.number ≡ run l.nodes (map fields_of (lines_left l.initial.lines)) (state l.initial.self) l.initial.lines.number)
    × (Sound l.nodes (state l.initial.self) → Sound l.nodes (state l.self))
