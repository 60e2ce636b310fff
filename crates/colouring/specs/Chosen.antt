-- Colouring in other words: an order in which temporaries are removed, and the places that follow from it.
use Rattle.std.specs.Prelude.{◌≡◌, ℕ, suc, ◌-◌, ◌<◌, ◌≤◌, Bool, true, false, not, ◌&&◌, ◌⊎◌, List, length, take, drop, Some, None, Option, nat_eq, slice_index, slice_index_or}
use Rattle.sets.specs.Masks.{First, any}
use Rattle.source.specs.Reading.{Source}
use Rattle.places.specs.declared.place.Place.{Place}
use Rattle.places.specs.declared.place.Place.TheVariants.{Home}
use Rattle.colouring.specs.Colouring.{degree, under, held, to_place, conflict, used, colouring}

-- the lowest number below n that passes the test, none exactly when there is none
abbrev pub IsLowest : ℕ → (ℕ → Bool) → Option ℕ → Type 0
IsLowest n p None = (k : ℕ) → k < n → p k ≡ false
IsLowest n p (Some v) = (v < n) × First p v

-- v passes and is below n, none that does is of greater degree, and all lower ones are of smaller degree
pub record Busiest (degrees : ℕ → ℕ) (n : ℕ) (p : ℕ → Bool) (v : ℕ) : Type 0 where
  pub within : v < n
  pub here : p v ≡ true
  pub most : (k : ℕ) → k < n → p k ≡ true → degrees k ≤ degrees v
  pub first : (k : ℕ) → k < v → p k ≡ true → degrees k < degrees v

-- the lowest of greatest degree, none exactly when no number passes
abbrev pub IsBusiest : (ℕ → ℕ) → ℕ → (ℕ → Bool) → Option ℕ → Type 0
IsBusiest degrees n p None = (k : ℕ) → k < n → p k ≡ false
IsBusiest degrees n p (Some v) = Busiest degrees n p v

-- the number is in the list
abbrev pub member : List ℕ → ℕ → Bool
member xs v = any (nat_eq v) xs

-- those left once xs are removed
abbrev pub left_after : (ℕ → Bool) → List ℕ → ℕ → Bool
left_after left xs v = left v && not (member xs v)

module _ (V K : ℕ) (conf : ℕ → ℕ → Bool) where
  -- v is the lowest left of degree under K, or, where there is none, the lowest left of greatest degree
  abbrev pub IsNext : (ℕ → Bool) → ℕ → Type 0
  IsNext left v = IsLowest V (under V K conf left) (Some v) ⊎ (IsLowest V (under V K conf left) None × Busiest (degree V conf left) V left v)

  -- register r is free for v: no temporary of xs that is in conflict with v holds it
  abbrev pub free : List Place → List ℕ → ℕ → ℕ → Bool
  free ps xs v r = not (held V (λ u. conf v u && member xs u) ps r)

  -- ps are the places of those left, removed in this order
  pub record Coloured (left : ℕ → Bool) (order : List ℕ) (ps : List Place) : Type 0 where
    pub long : length ps ≡ V
    -- each is the next of those left when it is removed
    pub removes : (i : ℕ) → i < length order → IsNext (left_after left (take i order)) (slice_index order i)
    -- until none is left
    pub all : (v : ℕ) → v < V → left_after left order v ≡ false
    -- each takes the lowest register that no conflicting temporary removed after it holds, else home
    pub takes :
        (i : ℕ) → i < length order → (o : Option ℕ) × IsLowest K (free ps (drop (suc i) order) (slice_index order i)) o × (slice_index_or ps (slice_index order i) Home ≡ to_place o)
    -- the others stay at home
    pub others : (v : ℕ) → v < V → member order v ≡ false → slice_index_or ps v Home ≡ Home

-- the places of colouring come from an order of removal
abbrev pub ColouringByOrder : Type 0
ColouringByOrder =
    (s : Source) (L : ℕ → ℕ → Bool) (R : ℕ) → (order : List ℕ) × Coloured s.temporaries (R - 2) (conflict s L) (used s L) order (colouring s L R)

-- only one order and one list of places can
abbrev pub OneColouring : Type 0
OneColouring =
    (V K : ℕ) (conf : ℕ → ℕ → Bool) (left : ℕ → Bool) (order order' : List ℕ) (ps qs : List Place)
    → Coloured V K conf left order ps → Coloured V K conf left order' qs → (order ≡ order') × (ps ≡ qs)
