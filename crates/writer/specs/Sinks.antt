-- What takes the lines of a text: how many more bytes fit, and what it becomes with the bytes that it takes.
use Rattle.std.specs.Prelude.{◌≡◌, ℕ, ◌+◌, ◌<◌, ◌≤◌, List, [], ◌++◌, length, Option, OnSome, IfNone}
use Rattle.text.specs.Put.{added}

-- bs is taken, or it does not fit
pub record Puts {S : Type 0} (room : S → ℕ) (Takes : List ℕ → S → S → Type 0) (bs : List ℕ) (s : S) (r : Option (Unit {0})) (t : S) : Type 0 where
  pub taken : OnSome r (Takes bs s t)
  pub refused : IfNone r (room s < length bs)

-- what takes bytes in order, and room for them all: taking nothing changes nothing, and taking a and then b is taking a ++ b
pub record InOrder {S : Type 0} (room : S → ℕ) (Takes : List ℕ → S → S → Type 0) : Type 0 where
  pub none : (s : S) → Takes [] s s
  pub both : (a b : List ℕ) (s t u : S) → Takes a s t → Takes b t u → Takes (a ++ b) s u
  pub left : (a : List ℕ) (s t : S) → Takes a s t → room t + length a ≡ room s

-- bs is written over `was` from place `at` on, up to place `end`
abbrev pub AddedUpTo : List ℕ → ℕ → List ℕ → ℕ → List ℕ → Type 0
AddedUpTo bs at was end out = (at + length bs ≤ length was) × (end ≡ at + length bs) × (out ≡ added at bs was)
