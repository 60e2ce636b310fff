-- Words, by how they are written.
use Rattle.std.specs.Prelude.{ℕ, cond, List, [], ◌∷◌, Some, None, Option}
use Rattle.std.specs.Str.{bytes_eq}

-- the first of the words that is written as bs
abbrev pub named : {W : Type 0} → (W → List ℕ) → List W → List ℕ → Option W
named spelling [] bs = None
named spelling (w ∷ ws) bs = cond (bytes_eq bs (spelling w)) (Some w) (named spelling ws bs)
