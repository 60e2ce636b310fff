-- Numbers as the texts write them.
use Rattle.std.specs.Prelude.{ℕ, ◌+◌, ◌-◌, ◌*◌, Bool, cond, not, ◌&&◌, List, [], ◌∷◌, length, Some, None, Option, ◌==◌, nat_le, nat_lt, slice_index}

-- the digits bs read on after n
abbrev pub read_on : ℕ → List ℕ → Option ℕ
read_on n [] = Some n
read_on n (c ∷ cs) = cond (nat_le 48 c && nat_le c 57) (read_on (n * 10 + (c - 48)) cs) None

-- no digit 0 in front of another
abbrev pub plain : List ℕ → Bool
plain bs = not (slice_index bs 0 == 48 && nat_lt 1 (length bs))

-- one to ten decimal digits with no leading zero
abbrev pub number_of : List ℕ → Option ℕ
number_of bs = cond (nat_lt 0 (length bs) && nat_le (length bs) 10 && plain bs) (read_on 0 bs) None
