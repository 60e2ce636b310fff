-- What is read is well formed, and written back is the text that it was read from.
use Rattle.std.specs.Prelude.{◌≡◌, ℕ, List, Ok}
use Rattle.allocation.specs.Allocations.{Allocation}
use Rattle.allocation.specs.Rendering.{render}
use Rattle.allocation.specs.WellFormed.{WellFormed}
use Rattle.reading.specs.Reading.{read_allocation}

-- what is read, written, is the text that it was read from
abbrev pub WrittenBack : Type 0
WrittenBack = (p n : ℕ) (bs : List ℕ) (a : Allocation) → read_allocation p n bs ≡ Ok a → render a ≡ bs

-- what is read is well formed
abbrev pub ReadsWell : Type 0
ReadsWell = (p n : ℕ) (bs : List ℕ) (a : Allocation) → read_allocation p n bs ≡ Ok a → WellFormed p n a
