use Rattle.std.proofs.Common.{◌≡◌, ◌+◌, ◌≤◌, length, vec_items, vec_len, vec_capacity}
use Rattle.text.specs.Lines.{lines_left}
use Rattle.source.specs.Reading.{read_nodes}
use Rattle.source.proofs.WholeText.{after}
use Rattle.source.proofs.reader.read_lines.Given as goal

abbrev pub invariant-loop-line : goal.invariant-loop-line
invariant-loop-line l =
    (after (vec_items l.nodes) (read_nodes l.h l.line-iterator.number (lines_left l.line-iterator)) ≡ read_nodes l.h l.lines.number (lines_left l.lines))
    × (vec_len l.nodes + length (lines_left l.line-iterator) ≤ vec_capacity l.nodes) × (vec_capacity l.initial.nodes ≤ vec_capacity l.nodes)
