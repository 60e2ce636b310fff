use Rattle.std.proofs.Common.{ℕ, List, drop}
use Rattle.text.specs.Parts.{written}
use Rattle.allocation.specs.declared.line.Move.{Move}
use Rattle.allocation.specs.Rendering.{move_rows}
use Rattle.writer.specs.Sinks.{Puts}
use Rattle.writer.proofs.put_moves.Given as goal

-- what comes of the rest comes of the whole
abbrev pub invariant-loop-m : goal.invariant-loop-m
invariant-loop-m g l =
    let all : List Move → List ℕ = λ ms. written (move_rows l.registers l.edge ms) in
    (r : _) (t : _) → Puts g.S.Sink.room g.S.Sink.Takes (all (drop l.m-index l.moves)) l.sink r t → Puts g.S.Sink.room g.S.Sink.Takes (all l.moves) l.initial.sink r t
