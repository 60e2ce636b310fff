-- The four numbers of a refusal: question, line or node, temporary, location.
use Rattle.std.specs.Prelude.{ℕ, List, ◌∷◌, ◌++◌, codes, decimal}
use Rattle.refusal.specs.declared.Numbers.{Numbers}
use Rattle.refusal.specs.declared.Refusal.{Refusal}
use Rattle.refusal.specs.declared.Refusal.TheVariants.{SourceSize, SourceHeading, SourceLength, SourceWord, SourceField, Unset, NoSource, AllocationSize, AllocationHeading, AllocationWord, AllocationField, OutOfOrder, TooManyMoves, MissingNodes, ShortMemory, Mismatch, Elsewhere, Overwritten, NeverSet, Foreign, Unplaced, Registers, NothingStands, Arguments, Cells, Unwritten, NoRoom}

abbrev named : ℕ → ℕ → ℕ → ℕ → Numbers
named question place temporary location = record { question = question; place = place; temporary = temporary; location = location }

-- what a question does not name is 0
abbrev pub numbers : Refusal → Numbers
numbers SourceSize = named 11 0 0 0
numbers SourceHeading = named 12 1 0 0
numbers (SourceLength line) = named 13 line 0 0
numbers (SourceWord line) = named 14 line 0 0
numbers (SourceField line) = named 15 line 0 0
numbers (Unset temporary) = named 16 0 temporary 0
numbers NoSource = named 20 0 0 0
numbers AllocationSize = named 21 0 0 0
numbers AllocationHeading = named 22 1 0 0
numbers (AllocationWord line) = named 23 line 0 0
numbers (AllocationField line) = named 24 line 0 0
numbers (OutOfOrder line) = named 25 line 0 0
numbers (TooManyMoves line) = named 26 line 0 0
numbers (MissingNodes line) = named 27 line 0 0
numbers ShortMemory = named 31 0 0 0
numbers (Mismatch node) = named 32 node 0 0
numbers (Elsewhere node temporary location) = named 33 node temporary location
numbers (Overwritten node temporary location) = named 34 node temporary location
numbers (NeverSet node temporary location) = named 35 node temporary location
numbers (Foreign temporary location) = named 36 0 temporary location
numbers Unplaced = named 40 0 0 0
numbers Registers = named 41 0 0 0
numbers NothingStands = named 50 0 0 0
numbers Arguments = named 51 0 0 0
numbers Cells = named 52 0 0 0
numbers Unwritten = named 60 0 0 0
numbers NoRoom = named 61 0 0 0

-- the line that programs print: the word `refused` and the four numbers, parted by byte 9
abbrev pub refusal_line : Refusal → List ℕ
refusal_line r =
    codes "refused" ++ 9 ∷ (decimal (numbers r).question ++ 9 ∷ (decimal (numbers r).place ++ 9 ∷ (decimal (numbers r).temporary ++ 9 ∷ decimal (numbers r).location)))
