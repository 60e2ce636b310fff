use Rattle.std.proofs.Common.{◌≡◌, ◌+◌, map, length, drop}
use Rattle.text.specs.Parts.{ended}
use Rattle.text.specs.Put.{piece_bytes}
use Rattle.text.proofs.put.line_fits.Given as goal

abbrev pub invariant-loop-p : goal.invariant-loop-p
invariant-loop-p l = l.left + length (ended (map piece_bytes l.row)) ≡ l.room + length (ended (map piece_bytes (drop l.p-index l.row)))
