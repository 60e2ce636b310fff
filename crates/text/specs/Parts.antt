-- The lines of a text, and the fields of a line.
use Rattle.std.specs.Prelude.{ℕ, ◌-◌, Bool, cond, ◌&&◌, List, [], ◌∷◌, ◌++◌, length, ◌==◌, nat_le, slice_index}

-- what stands before the first b
abbrev pub first_part : ℕ → List ℕ → List ℕ
first_part b [] = []
first_part b (c ∷ cs) = cond (c == b) [] (c ∷ first_part b cs)

-- c in front of the first part
abbrev pub on_first : ℕ → List (List ℕ) → List (List ℕ)
on_first c [] = (c ∷ []) ∷ []
on_first c (p ∷ ps) = (c ∷ p) ∷ ps

-- the parts that the bytes b part, with `last` for what follows the last one where it is empty
abbrev pub parts : ℕ → List (List ℕ) → List ℕ → List (List ℕ)
parts b last [] = last
parts b last (c ∷ cs) = cond (c == b) ([] ∷ parts b last cs) (on_first c (parts b last cs))

-- the lines of a text, each ended by byte 10; bytes after the last byte 10 are a last line
unfoldable pub lines_of : List ℕ → List (List ℕ)
lines_of text = parts 10 [] text

-- the fields of a line, parted by one byte 9
abbrev pub fields_of : List ℕ → List (List ℕ)
fields_of line = parts 9 ([] ∷ []) line

-- 1 to 32,768 bytes, the last being 10
abbrev pub sized : List ℕ → Bool
sized bs = nat_le 1 (length bs) && nat_le (length bs) 32768 && slice_index bs (length bs - 1) == 10

-- a line, given by its fields: parted by byte 9, and byte 10 after the last
abbrev pub ended : List (List ℕ) → List ℕ
ended [] = []
ended (p ∷ []) = p ++ 10 ∷ []
ended (p ∷ q ∷ ps) = p ++ 9 ∷ ended (q ∷ ps)

-- lines, each given by its fields
unfoldable pub written : List (List (List ℕ)) → List ℕ
written [] = []
written (fs ∷ ls) = ended fs ++ written ls
