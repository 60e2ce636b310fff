-- What is written, and where.
use Rattle.std.specs.Prelude.{◌≡◌, ℕ, ◌+◌, ◌-◌, ◌<◌, ◌≤◌, cond, List, ◌∷◌, ◌++◌, length, take, drop, Some, None, Ok, Err, decimal, Option, Result, nat_le}
use Rattle.text.specs.declared.put.Piece.{Piece}
use Rattle.text.specs.declared.put.Piece.TheVariants.{Word, Number, Register, Slot}

-- bs over the front of xs
abbrev pub over : List ℕ → List ℕ → List ℕ
over bs xs = bs ++ drop (length bs) xs

-- how a field is written
abbrev pub piece_bytes : Piece → List ℕ
piece_bytes (Word t) = t.now
piece_bytes (Number n) = decimal n
piece_bytes (Register n) = 114 ∷ decimal n
piece_bytes (Slot n) = 115 ∷ decimal n

-- what is left of the room after n bytes
abbrev pub left_of : ℕ → ℕ → Option ℕ
left_of room n = cond (nat_le n room) (Some (room - n)) None

-- bs over xs from place `at` on
abbrev pub added : ℕ → List ℕ → List ℕ → List ℕ
added at bs xs = take at xs ++ (bs ++ drop (at + length bs) xs)

-- bs is written over `was` from place `at` on, and its length answered; or it does not fit there, and nothing changes
abbrev pub WrittenAt : {E : Type 0} → E → ℕ → List ℕ → List ℕ → Result ℕ E → List ℕ → Type 0
WrittenAt refusal at bs was (Ok n) out = (at + length bs ≤ length was) × (n ≡ length bs) × (out ≡ added at bs was)
WrittenAt refusal at bs was (Err e) out = (length was < at + length bs) × (e ≡ refusal) × (out ≡ was)
