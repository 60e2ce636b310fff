-- The steps of colouring.
use Rattle.std.proofs.Common.{◌≡◌, ℕ, zero, suc, ◌-◌, ◌<◌, ◌≤◌, Bool, true, false, not, ◌&&◌, eqb, ltb, List, length, get_or, set, IfSome, Some, None, Option, sym, refl, ap, ◌∙◌, ap₂, subst, zero-add, arith, MatchOption}
use Rattle.std.specs.List.{AllWithin, HoldsAt, range_with_len}
use Rattle.std.proofs.lemmas.List.FromFn.{length-range_with_len, get_or-range_with_len}
use mathlib.Core.Path.{fun_ext}
use Rattle.sets.specs.Masks.{count, First}
use Rattle.sets.proofs.Masks.{count_same, count_cut}
use Rattle.places.specs.declared.place.Place.{Place}
use Rattle.places.specs.declared.place.Place.TheVariants.{Home}
use Rattle.colouring.specs.Colouring.{or_else, lowest_of, busiest_of, less, degree, under, next, held, holds, chosen, after, coloured, to_place}
use Rattle.colouring.specs.Chosen.{IsLowest}
use Rattle.colouring.specs.Searches.{lowest_is, next_within}
use Rattle.colouring.proofs.Searching.{some_same, count_below, lowest_same, lowest_found, busiest_same}

module _ (V K : ℕ) (conf : ℕ → ℕ → Bool) where
  pub coloured_step : (left rest : ℕ → Bool) (turns v : ℕ) (qs : List Place) → (turns ≡ 0 → ⊥) → Some v ≡ next V K conf left → ((u : ℕ) → rest u ≡ less left v u) → qs ≡ coloured V K conf (turns - 1) rest
      → set qs v (chosen V K conf qs v) ≡ coloured V K conf turns left
  coloured_step left rest zero v qs ne e f q = absurd (ne refl)
  coloured_step left rest (suc n) v qs ne e f q =
      ap (λ (ps : List Place). set ps v (chosen V K conf ps v)) (q ∙ (ap (λ (k : ℕ). coloured V K conf k rest) (omega arith) ∙ ap (coloured V K conf n) (fun_ext f)))
      ∙ ap (λ (o : Option ℕ). after V K conf o (λ v. coloured V K conf n (less left v))) e

-- the degree, counted in a word of 64 digits
pub degree_is : (V : ℕ) (near left both : ℕ → Bool) → V ≤ 64 → ((u : ℕ) → both u ≡ (near u && left u)) → ((u : ℕ) → V ≤ u → left u ≡ false) → count 64 both ≡ count V (λ u. near u && left u)
degree_is V near left both h e past = count_same 64 both (λ u. near u && left u) e ∙ count_cut 64 V (λ u. near u && left u) h (λ u l. outside (near u) (left u) (past u l))
  where
    outside : (a b : Bool) → b ≡ false → (a && b) ≡ false
    outside true b e = e
    outside false b e = refl

-- the best of the numbers below n that pass, with its degree
abbrev pub BestSoFar : (ℕ → ℕ) → (ℕ → Bool) → ℕ → Option (ℕ × ℕ) → Type 0
BestSoFar deg p n None = None ≡ busiest_of deg n p
BestSoFar deg p n (Some x) = (Some x.0 ≡ busiest_of deg n p) × (x.1 ≡ deg x.0)

-- the first that passes of the numbers from 0 on
pub lowest_first : (n : ℕ) (p : ℕ → Bool) (o : Option ℕ)
    → MatchOption o (AllWithin (λ v. p v ≡ false) (range_with_len 0 n) 0 (length (range_with_len 0 n))) (λ x. (p x ≡ true) × (i : ℕ) × (i < length (range_with_len 0 n)) × HoldsAt (λ y. y ≡ x) (range_with_len 0 n) i × AllWithin (λ v. p v ≡ false) (range_with_len 0 n) 0 i)
    → o ≡ lowest_of n p
lowest_first n p o h = lowest_found n p o (go o h)
  where
    at : (k : ℕ) → k < n → get_or (range_with_len 0 n) k 0 ≡ k
    at k lt = get_or-range_with_len 0 n k 0 lt ∙ zero-add k

    go : (o : Option ℕ) → MatchOption o (AllWithin (λ v. p v ≡ false) (range_with_len 0 n) 0 (length (range_with_len 0 n))) (λ x. (p x ≡ true) × (i : ℕ) × (i < length (range_with_len 0 n)) × HoldsAt (λ y. y ≡ x) (range_with_len 0 n) i × AllWithin (λ v. p v ≡ false) (range_with_len 0 n) 0 i) → IsLowest n p o
    go None h = λ k lt. subst (λ (v : ℕ). p v ≡ false) (at k lt) (h k 0 (omega arith) (omega (arith, length-range_with_len 0 n)))
    go (Some x) h =
        let low : h.1 < n = omega (arith, h.2, length-range_with_len 0 n) in
        let is : h.1 ≡ x = sym (at h.1 low) ∙ h.3 0 in
        (omega (arith, low, is), record { here = h.0; none = λ k lt. subst (λ (v : ℕ). p v ≡ false) (at k (omega (arith, low, is, lt))) (h.4 k 0 (omega arith) (omega (arith, is, lt))) })

-- the lowest that passes is below n
pub lowest_below : (n : ℕ) (p : ℕ → Bool) (o : Option ℕ) → o ≡ lowest_of n p → IfSome o (λ v. v < n)
lowest_below n p o e = go o (subst (IsLowest n p) (sym e) (lowest_is n p))
  where
    go : (o : Option ℕ) → IsLowest n p o → IfSome o (λ v. v < n)
    go None h = tt
    go (Some v) h = h.0

-- the lowest register below K that is not held, by the set of those that are
module _ (K : ℕ) (taken held' : ℕ → Bool) (is : (r : ℕ) → r < K → taken r ≡ held' r) where
  pub lowest_free_lem : (o : Option ℕ) → MatchOption o ((r : ℕ) → r < K → taken r ≡ true) (λ t. (t < K) × First (λ r. not (taken r)) t) → o ≡ lowest_of K (λ r. not (held' r))
  lowest_free_lem o h = lowest_found K (λ r. not (taken r)) o (go o h) ∙ lowest_same K (λ r. not (taken r)) (λ r. not (held' r)) (λ r l. ap not (is r l))
    where
      go : (o : Option ℕ) → MatchOption o ((r : ℕ) → r < K → taken r ≡ true) (λ t. (t < K) × First (λ r. not (taken r)) t) → IsLowest K (λ r. not (taken r)) o
      go None h = λ r l. ap not (h r l)
      go (Some t) h = h

-- ---- colouring asks only of temporaries below V

module _ (V K : ℕ) (conf conf' : ℕ → ℕ → Bool) (same : (u v : ℕ) → u < V → v < V → conf u v ≡ conf' u v) where
  abbrev Same : (ℕ → Bool) → (ℕ → Bool) → Type 0
  Same f g = (k : ℕ) → k < V → f k ≡ g k

  degree_same : (left left' : ℕ → Bool) → Same left left' → (v : ℕ) → v < V → degree V conf left v ≡ degree V conf' left' v
  degree_same left left' h v lt = count_below V (λ u. conf v u && left u) (λ u. conf' v u && left' u) (λ u m. ap₂ ◌&&◌ (same v u lt m) (h u m))

  next_same : (left left' : ℕ → Bool) → Same left left' → next V K conf left ≡ next V K conf' left'
  next_same left left' h =
      ap₂ or_else
      (lowest_same V (under V K conf left) (under V K conf' left') (λ v lt. ap₂ (λ (b : Bool) (n : ℕ). b && ltb n K) (h v lt) (degree_same left left' h v lt)))
      (busiest_same (degree V conf left) (degree V conf' left') V left left' (degree_same left left' h) h)

  chosen_same : (ps : List Place) (v : ℕ) → v < V → chosen V K conf ps v ≡ chosen V K conf' ps v
  chosen_same ps v lt =
      ap to_place (lowest_same K (λ r. not (held V (conf v) ps r)) (λ r. not (held V (conf' v) ps r))
      (λ r _. ap not (some_same V (λ u. conf v u && holds (get_or ps u Home) r) (λ u. conf' v u && holds (get_or ps u Home) r) (λ u m. ap (λ (b : Bool). b && holds (get_or ps u Home) r) (same v u lt m)))))

  less_same : (left left' : ℕ → Bool) → Same left left' → (v : ℕ) → Same (less left v) (less left' v)
  less_same left left' h v u lt = ap (λ (b : Bool). b && not (eqb u v)) (h u lt)

  pub coloured_same : (n : ℕ) (left left' : ℕ → Bool) → Same left left' → coloured V K conf n left ≡ coloured V K conf' n left'
  coloured_same zero left left' h = refl
  coloured_same (suc n) left left' h =
      ap (λ (o : Option ℕ). after V K conf o (λ v. coloured V K conf n (less left v))) (next_same left left' h)
      ∙ go (next V K conf' left') (next_within V K conf' left') (λ v. coloured_same n (less left v) (less left' v) (less_same left left' h v))
    where
      go : (o : Option ℕ) → IfSome o (λ v. (v < V) × (left' v ≡ true)) → ((v : ℕ) → coloured V K conf n (less left v) ≡ coloured V K conf' n (less left' v))
          → after V K conf o (λ v. coloured V K conf n (less left v)) ≡ after V K conf' o (λ v. coloured V K conf' n (less left' v))
      go None c ih = refl
      go (Some v) c ih =
          ap (λ (ps : List Place). set ps v (chosen V K conf ps v)) (ih v)
          ∙ ap (set (coloured V K conf' n (less left' v)) v) (chosen_same (coloured V K conf' n (less left' v)) v c.0)
