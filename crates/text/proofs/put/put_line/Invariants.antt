use Rattle.std.proofs.Common.{map, drop}
use Rattle.text.specs.Parts.{ended}
use Rattle.text.specs.Put.{piece_bytes}
use Rattle.text.proofs.Writing.{Wrote}
use Rattle.text.proofs.put.put_line.Given as goal

abbrev pub invariant-loop-i : goal.invariant-loop-i
invariant-loop-i l = Wrote (ended (map piece_bytes l.row)) l.initial.out l.out l.at (ended (map piece_bytes (drop l.i l.row)))
