-- Reading and writing an allocation's text undo each other.
use Rattle.std.specs.Prelude.{◌≡◌, ℕ, Ok}
use Rattle.allocation.specs.Allocations.{Allocation}
use Rattle.allocation.specs.Rendering.{render}
use Rattle.allocation.specs.WellFormed.{WellFormed}
use Rattle.reading.specs.Reading.{read_allocation}

-- what is written of a well-formed allocation is read as that allocation
abbrev pub ReadBack : Type 0
ReadBack = (p n : ℕ) (a : Allocation) → WellFormed p n a → read_allocation p n (render a) ≡ Ok a
