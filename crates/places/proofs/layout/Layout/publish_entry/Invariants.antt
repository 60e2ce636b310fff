use Rattle.sets.specs.Masks.{bit}
use Rattle.places.specs.Publish.{entry_moves}
use Rattle.places.specs.Steps.{Added, place_of}
use Rattle.places.proofs.layout.Layout.publish_entry.Given as goal

-- the moves of the parameters below i are there
abbrev pub invariant-loop-i : goal.invariant-loop-i
invariant-loop-i l = Added l.initial.tables l.tables (entry_moves l.self.registers (place_of l.self) (bit l.live) 0 l.i)
