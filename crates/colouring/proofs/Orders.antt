-- Colouring by recursion gives places by an order of removal.
use Rattle.std.proofs.Common.{◌≡◌, ℕ, zero, suc, ◌+◌, ◌-◌, ◌<◌, ◌≤◌, Bool, true, false, cond, not, ◌&&◌, ◌||◌, eqb, List, [], ◌∷◌, length, get_or, take, drop, set, replicate, Some, None, Option, sym, refl, ap, ◌∙◌, subst, ap₂, inl, inr, arith, length-set}
use mathlib.Core.Path.{fun_ext}
use mathlib.Core.Bool.{and-true, and-false}
use lib.Dec.{eqb-suc-zero, eqb-zero-suc, eqb-suc-suc}
use lib.ListN.{length-replicate}
use Rattle.std.proofs.lemmas.List.{get_or-replicate, get_or-set_same, get_or-set_other, get_or_default, same_lists}
use Rattle.std.proofs.lemmas.Bool.{or_cases, or_parts, or_from, or_left, or_right, and_parts, cases_eq, both_ways, not-true, eq-eqb, ne_eqb, eqb-true, eqb-false}
use Rattle.places.specs.declared.place.Place.{Place}
use Rattle.places.specs.declared.place.Place.TheVariants.{Home}
use Rattle.sets.specs.Masks.{count}
use Rattle.colouring.specs.Colouring.{some, or_else, lowest_of, busiest_of, degree, under, holds, held, to_place, less, next, chosen, after, coloured, conflict, used}
use Rattle.colouring.specs.Chosen.{IsLowest, IsBusiest, member, left_after, IsNext, Coloured, ColouringByOrder}
use Rattle.colouring.specs.Searches.{lowest_is, busiest_is}
use Rattle.colouring.proofs.Searching.{some_same, count_below, lowest_one, busiest_one}

-- a temporary of a list, in conflict with v, holds register r
abbrev held_by : ℕ → (ℕ → ℕ → Bool) → List Place → List ℕ → ℕ → ℕ → Bool
held_by V conf ps xs v r = held V (λ u. conf v u && member xs u) ps r

member-drop : (k : ℕ) (xs : List ℕ) (u : ℕ) → member (drop k xs) u ≡ true → member xs u ≡ true
member-drop zero xs u e = e
member-drop (suc k) [] u e = e
member-drop (suc k) (x ∷ xs) u e = or_right (eqb u x) _ (member-drop k xs u e)

member_getD : (xs : List ℕ) (j : ℕ) → j < length xs → member xs (get_or xs j 0) ≡ true
member_getD [] j h = absurd (none h)
  where
    none : j < 0 → ⊥
    none x = omega arith
member_getD (x ∷ xs) zero h = or_left _ _ (eq-eqb x x refl)
member_getD (x ∷ xs) (suc j) h = or_right (eqb (get_or xs j 0) x) _ (member_getD xs j (omega arith))

after-cons : (left : ℕ → Bool) (v : ℕ) (xs : List ℕ) → left_after left (v ∷ xs) ≡ left_after (less left v) xs
after-cons left v xs = fun_ext (λ u. go (left u) (eqb u v) (member xs u))
  where
    go : (a b c : Bool) → (a && not (b || c)) ≡ ((a && not b) && not c)
    go true true c = refl
    go true false c = refl
    go false b c = refl

after_none : (left : ℕ → Bool) → left_after left [] ≡ left
after_none left = fun_ext (λ u. and-true (left u))

abbrev pub num : Bool → ℕ
num b = cond b 1 0

pub count-zero : (n : ℕ) (f : ℕ → Bool) → count n f ≤ 0 → (k : ℕ) → k < n → f k ≡ false
unfolding count
count-zero zero f h k lt = absurd (none lt)
  where
    none : k < 0 → ⊥
    none x = omega arith
count-zero (suc n) f h zero lt = go (f 0) refl
  where
    go : (b : Bool) → f 0 ≡ b → f 0 ≡ false
    go true e = absurd (no_room (ap num e))
      where
        no_room : num (f 0) ≡ 1 → ⊥
        no_room z = omega arith
    go false e = e
count-zero (suc n) f h (suc k) lt = count-zero n (λ j. f (suc j)) (omega arith) k (omega arith)

one_or_none : (b : Bool) → cond b 1 0 ≤ 1
one_or_none true = omega arith
one_or_none false = omega arith

pub count_le : (n : ℕ) (f : ℕ → Bool) → count n f ≤ n
unfolding count
count_le zero f = omega arith
count_le (suc n) f = omega (arith, count_le n (λ k. f (suc k)), one_or_none (f 0))

pub count_less : (n : ℕ) (left : ℕ → Bool) (v : ℕ) → v < n → left v ≡ true → count n (less left v) + 1 ≡ count n left
unfolding count
count_less zero left v h e = absurd (none h)
  where
    none : v < 0 → ⊥
    none x = omega arith
count_less (suc n) left zero h e =
    let a : num (left 0 && false) ≡ 0 = ap num (and-false (left 0)) in
    let b : num (left 0) ≡ 1 = ap num e in
    let t = count_below n (λ k. left (suc k) && not (eqb (suc k) 0)) (λ k. left (suc k)) (λ k lt. ap (λ z. left (suc k) && not z) (eqb-suc-zero k) ∙ and-true (left (suc k))) in
    omega (arith, a, b, t)
count_less (suc n) left (suc v) h e =
    let a : num (left 0 && not (eqb 0 (suc v))) ≡ num (left 0) = ap num (ap (λ z. left 0 && not z) (eqb-zero-suc v) ∙ and-true (left 0)) in
    let t = count_below n (λ k. left (suc k) && not (eqb (suc k) (suc v))) (less (λ k. left (suc k)) v) (λ k lt. ap (λ z. left (suc k) && not z) (eqb-suc-suc k v)) in
    omega (arith, a, t, count_less n (λ k. left (suc k)) v (omega arith) e)

module _ (V K : ℕ) (conf : ℕ → ℕ → Bool) where
  next_left : (left : ℕ → Bool) (v : ℕ) → IsNext V K conf left v → (v < V) × (left v ≡ true)
  next_left left v h = elim h [ inl p ↦ (p.0, (and_parts _ _ p.1.here).0) | inr p ↦ (p.1.within, p.1.here) ]

  -- one removed after another
  abbrev Run : (ℕ → Bool) → List ℕ → List Place → Type 0
  Run left [] ps = ((v : ℕ) → v < V → left v ≡ false) × (ps ≡ replicate V Home)
  Run left (v ∷ vs) ps = IsNext V K conf left v × ((qs : List Place) × Run (less left v) vs qs × (ps ≡ set qs v (chosen V K conf qs v)))

  run_among : (order : List ℕ) (left : ℕ → Bool) (ps : List Place) → Run left order ps → (u : ℕ) → member order u ≡ true → left u ≡ true
  run_among [] left ps r u e = absurd (both_ways false refl e)
  run_among (v ∷ vs) left ps r u e = elim (or_cases (eqb u v) (member vs u) e) [ inl q ↦ ap left (eqb-true u v q) ∙ (next_left left v r.0).1 | inr m ↦ (and_parts (left u) _ (run_among vs (less left v) r.1.0 r.1.1 u m)).0 ]

  run-apart : (v : ℕ) (vs : List ℕ) (left : ℕ → Bool) (qs : List Place) → Run (less left v) vs qs → (u : ℕ) → member vs u ≡ true → u ≡ v → ⊥
  run-apart v vs left qs r u m e = both_ways (eqb u v) (not-true (eqb u v) (and_parts (left u) (not (eqb u v)) (run_among vs (less left v) qs r u m)).1) (eq-eqb u v e)

  module _ (v : ℕ) (vs : List ℕ) (left : ℕ → Bool) (ps qs : List Place) (is-next : IsNext V K conf left v) (apart : (u : ℕ) → member vs u ≡ true → u ≡ v → ⊥) (C : Coloured V K conf (less left v) vs qs) (made : ps ≡ set qs v (chosen V K conf qs v)) where
    kept : (u : ℕ) → (u ≡ v → ⊥) → get_or ps u Home ≡ get_or qs u Home
    kept u ne = ap (λ z. get_or z u Home) made ∙ get_or-set_other qs v u _ Home ne

    -- what those of a part of vs hold has not changed
    held_kept : (w : ℕ) (xs : List ℕ) → ((u : ℕ) → member xs u ≡ true → member vs u ≡ true) → (r : ℕ) → held_by V conf qs xs w r ≡ held_by V conf ps xs w r
    held_kept w xs sub r = some_same V (λ u. (conf w u && member xs u) && holds (get_or qs u Home) r) (λ u. (conf w u && member xs u) && holds (get_or ps u Home) r) (λ u h. go u (member xs u) refl)
      where
        go : (u : ℕ) (b : Bool) → member xs u ≡ b → ((conf w u && member xs u) && holds (get_or qs u Home) r) ≡ ((conf w u && member xs u) && holds (get_or ps u Home) r)
        go u true e = ap (λ p. (conf w u && member xs u) && holds p r) (sym (kept u (apart u (sub u e))))
        go u false e = rw e (rw and-false)

    -- those not in vs hold no register
    held_all : (r : ℕ) → some V (λ u. conf v u && holds (get_or qs u Home) r) ≡ held_by V conf qs vs v r
    held_all r = some_same V (λ u. conf v u && holds (get_or qs u Home) r) (λ u. (conf v u && member vs u) && holds (get_or qs u Home) r) (λ u h. go u h (member vs u) refl)
      where
        go : (u : ℕ) → u < V → (b : Bool) → member vs u ≡ b → (conf v u && holds (get_or qs u Home) r) ≡ ((conf v u && member vs u) && holds (get_or qs u Home) r)
        go u h true e = rw e (rw and-true)
        go u h false e = rw (C.others u h e) (simp and-false)

    removes : (i : ℕ) → i < suc (length vs) → IsNext V K conf (left_after left (take i (v ∷ vs))) (get_or (v ∷ vs) i 0)
    removes zero h = subst (λ (f : ℕ → Bool). IsNext V K conf f v) (sym (after_none left)) is-next
    removes (suc j) h = subst (λ (f : ℕ → Bool). IsNext V K conf f (get_or vs j 0)) (sym (after-cons left v (take j vs))) (C.removes j (omega arith))

    takes : (i : ℕ) → i < suc (length vs) → (o : Option ℕ) × IsLowest K (λ k. not (held_by V conf ps (drop (suc i) (v ∷ vs)) (get_or (v ∷ vs) i 0) k)) o × (get_or ps (get_or (v ∷ vs) i 0) Home ≡ to_place o)
    takes zero h = (lowest_of K (λ r. not (held V (conf v) qs r)), subst (λ (f : ℕ → Bool). IsLowest K f (lowest_of K (λ r. not (held V (conf v) qs r)))) (fun_ext (λ k. ap not (held_all k ∙ held_kept v vs (λ u e. e) k))) (lowest_is K (λ r. not (held V (conf v) qs r))), ap (λ z. get_or z v Home) made ∙ get_or-set_same qs v _ Home (subst (λ (n : ℕ). v < n) (sym C.long) (next_left left v is-next).0))
    takes (suc j) h =
        let t = C.takes j (omega arith) in
        let w = get_or vs j 0 in
        (t.0, subst (λ (f : ℕ → Bool). IsLowest K f t.0) (fun_ext (λ k. ap not (held_kept w (drop (suc j) vs) (λ u e. member-drop (suc j) vs u e) k))) t.1, kept w (apart w (member_getD vs j (omega arith))) ∙ t.2)

    coloured_more : Coloured V K conf left (v ∷ vs) ps
    coloured_more = record { long = ap length made ∙ (length-set qs v _ ∙ C.long); removes = removes; all = λ u h. ap (λ f. f u) (after-cons left v vs) ∙ C.all u h; takes = takes; others = λ u h e. let p = or_parts (eqb u v) (member vs u) e in kept u (eqb-false u v p.0) ∙ C.others u h p.1 }

  coloured_none : (left : ℕ → Bool) (ps : List Place) → ((v : ℕ) → v < V → left v ≡ false) → ps ≡ replicate V Home → Coloured V K conf left [] ps
  coloured_none left ps a e = record { long = ap length e ∙ length-replicate V Home; removes = λ i h. absurd (none i h); all = λ v h. ap (λ b. b && true) (a v h); takes = λ i h. absurd (none i h); others = λ v h q. ap (λ z. get_or z v Home) e ∙ get_or-replicate V v Home Home h }
    where
      none : (i : ℕ) → i < 0 → ⊥
      none i x = omega arith

  run_coloured : (order : List ℕ) (left : ℕ → Bool) (ps : List Place) → Run left order ps → Coloured V K conf left order ps
  run_coloured [] left ps r = coloured_none left ps r.0 r.1
  run_coloured (v ∷ vs) left ps r = coloured_more v vs left ps r.1.0 r.0 (run-apart v vs left r.1.0 r.1.1) (run_coloured vs (less left v) r.1.0 r.1.1) r.1.2

  -- the definition runs
  next_is : (left : ℕ → Bool) (v : ℕ) → next V K conf left ≡ Some v → IsNext V K conf left v
  next_is left v = go (lowest_of V (under V K conf left)) (busiest_of (degree V conf left) V left) (lowest_is V (under V K conf left)) (busiest_is (degree V conf left) V left)
    where
      go : (o p : Option ℕ) → IsLowest V (under V K conf left) o → IsBusiest (degree V conf left) V left p → or_else o p ≡ Some v → IsNext V K conf left v
      go (Some x) p h g e = inl (subst (λ (o : Option ℕ). IsLowest V (under V K conf left) o) e h)
      go None p h g e = inr (h, subst (λ (o : Option ℕ). IsBusiest (degree V conf left) V left o) e g)

  next_none : (left : ℕ → Bool) → next V K conf left ≡ None → (v : ℕ) → v < V → left v ≡ false
  next_none left = go (lowest_of V (under V K conf left)) (busiest_of (degree V conf left) V left) (busiest_is (degree V conf left) V left)
    where
      go : (o p : Option ℕ) → IsBusiest (degree V conf left) V left p → or_else o p ≡ None → (v : ℕ) → v < V → left v ≡ false
      go (Some x) p g e v h = cc
      go None p g e v h = subst (λ (o : Option ℕ). IsBusiest (degree V conf left) V left o) e g v h

  coloured_runs : (k : ℕ) (left : ℕ → Bool) → count V left ≤ k → (order : List ℕ) × Run left order (coloured V K conf k left)
  coloured_runs zero left h = ([], (count-zero V left h, refl))
  coloured_runs (suc k) left h = go (next V K conf left) refl (λ v lt. coloured_runs k (less left v) lt)
    where
      go : (o : Option ℕ) → next V K conf left ≡ o → ((v : ℕ) → count V (less left v) ≤ k → (order : List ℕ) × Run (less left v) order (coloured V K conf k (less left v))) → (order : List ℕ) × Run left order (after V K conf o (λ v. coloured V K conf k (less left v)))
      go None e ih = ([], (next_none left e, refl))
      go (Some v) e ih =
          let is = next_is left v e in
          let p = next_left left v is in
          let t = ih v (omega (arith, count_less V left v p.0 p.1)) in
          (v ∷ t.0, (is, (coloured V K conf k (less left v), t.1, refl)))

  pub coloured_orders : (left : ℕ → Bool) → (order : List ℕ) × Coloured V K conf left order (coloured V K conf V left)
  coloured_orders left = let t = coloured_runs V left (count_le V left) in (t.0, run_coloured t.0 left _ t.1)

  -- an order and its places are determined
  next_one : (left : ℕ → Bool) (u v : ℕ) → IsNext V K conf left u → IsNext V K conf left v → u ≡ v
  next_one left u v p q = elim p [ inl a ↦ elim q [ inl b ↦ (let e = lowest_one V (under V K conf left) (Some u) (Some v) a b in cc) | inr b ↦ absurd (both_ways _ (b.0 u a.0) a.1.here) ] | inr a ↦ elim q [ inl b ↦ absurd (both_ways _ (a.0 v b.0) b.1.here) | inr b ↦ busiest_one (degree V conf left) V left u v a.1 b.1 ] ]

-- the place of an element of a list
member_index : (xs : List ℕ) (u : ℕ) → member xs u ≡ true → (j : ℕ) × (j < length xs) × (get_or xs j 0 ≡ u)
member_index [] u e = absurd (both_ways false refl e)
member_index (x ∷ xs) u e = elim (or_cases (eqb u x) (member xs u) e) [ inl q ↦ (0, omega arith, sym (eqb-true u x q)) | inr m ↦ (let t = member_index xs u m in (suc t.0, omega (arith, t.1), t.2)) ]

module _ (V K : ℕ) (conf : ℕ → ℕ → Bool) (left : ℕ → Bool) (v : ℕ) (vs : List ℕ) (ps : List Place) (C : Coloured V K conf left (v ∷ vs) ps) where
  first : IsNext V K conf left v
  first = subst (λ (f : ℕ → Bool). IsNext V K conf f v) (after_none left) (C.removes 0 (omega arith))

  within : v < V
  within = (next_left V K conf left v first).0

  -- no later one is the first
  later_apart : (u : ℕ) → member vs u ≡ true → u ≡ v → ⊥
  later_apart u m e =
      let t = member_index vs u m in
      let n = (next_left V K conf (left_after left (v ∷ take t.0 vs)) (get_or vs t.0 0) (C.removes (suc t.0) (omega (arith, t.1)))).1 in
      let p = or_parts (eqb (get_or vs t.0 0) v) _ (not-true _ (and_parts _ _ n).1) in
      eqb-false _ _ p.0 (t.2 ∙ e)

  kept_less : (u : ℕ) → (u ≡ v → ⊥) → get_or (set ps v Home) u Home ≡ get_or ps u Home
  kept_less u ne = get_or-set_other ps v u Home Home ne

  held-less : (w : ℕ) (xs : List ℕ) → ((u : ℕ) → member xs u ≡ true → member vs u ≡ true) → (r : ℕ) → held_by V conf ps xs w r ≡ held_by V conf (set ps v Home) xs w r
  held-less w xs sub r = some_same V (λ u. (conf w u && member xs u) && holds (get_or ps u Home) r) (λ u. (conf w u && member xs u) && holds (get_or (set ps v Home) u Home) r) (λ u h. go u (member xs u) refl)
    where
      go : (u : ℕ) (b : Bool) → member xs u ≡ b → ((conf w u && member xs u) && holds (get_or ps u Home) r) ≡ ((conf w u && member xs u) && holds (get_or (set ps v Home) u Home) r)
      go u true e = ap (λ p. (conf w u && member xs u) && holds p r) (sym (kept_less u (later_apart u (sub u e))))
      go u false e = rw e (rw and-false)

  -- the first taken away
  coloured_less : Coloured V K conf (less left v) vs (set ps v Home)
  coloured_less = record { long = length-set ps v Home ∙ C.long; removes = λ j h. subst (λ (f : ℕ → Bool). IsNext V K conf f (get_or vs j 0)) (after-cons left v (take j vs)) (C.removes (suc j) (omega arith)); all = λ u h. ap (λ f. f u) (sym (after-cons left v vs)) ∙ C.all u h; takes = takes_less; others = λ u h e. elim (cases_eq u v) [ inl q ↦ ap (λ z. get_or (set ps v Home) z Home) q ∙ get_or-set_same ps v Home Home (subst (λ (n : ℕ). v < n) (sym C.long) within) | inr ne ↦ kept_less u ne ∙ C.others u h (or_from (eqb u v) (member vs u) (ne_eqb u v ne) e) ] }
    where
      takes_less : (j : ℕ) → j < length vs → (o : Option ℕ) × IsLowest K (λ k. not (held_by V conf (set ps v Home) (drop (suc j) vs) (get_or vs j 0) k)) o × (get_or (set ps v Home) (get_or vs j 0) Home ≡ to_place o)
      takes_less j h =
          let t = C.takes (suc j) (omega arith) in
          let w = get_or vs j 0 in
          (t.0, subst (λ (f : ℕ → Bool). IsLowest K f t.0) (fun_ext (λ k. ap not (held-less w (drop (suc j) vs) (λ u e. member-drop (suc j) vs u e) k))) t.1, kept_less w (later_apart w (member_getD vs j h)) ∙ t.2)

  -- the first's place, by the places of the others
  first_place : (o : Option ℕ) → IsLowest K (λ k. not (held_by V conf (set ps v Home) vs v k)) o → get_or ps v Home ≡ to_place o
  first_place o h =
      let t = C.takes 0 (omega arith) in
      t.2 ∙ ap to_place (lowest_one K _ t.0 o t.1 (subst (λ (f : ℕ → Bool). IsLowest K f o) (fun_ext (λ k. ap not (sym (held-less v vs (λ u e. e) k)))) h))

module _ (V K : ℕ) (conf : ℕ → ℕ → Bool) where
  absent : (left : ℕ → Bool) (v : ℕ) (vs : List ℕ) (ps qs : List Place) → Coloured V K conf left [] ps → Coloured V K conf left (v ∷ vs) qs → ⊥
  absent left v vs ps qs C D = let n = next_left V K conf left v (first V K conf left v vs qs D) in both_ways (left v && true) (C.all v n.0) (and-true (left v) ∙ n.1)

  places_one : (left : ℕ → Bool) (v : ℕ) (vs : List ℕ) (ps qs : List Place) → Coloured V K conf left (v ∷ vs) ps → Coloured V K conf left (v ∷ vs) qs → set ps v Home ≡ set qs v Home → ps ≡ qs
  places_one left v vs ps qs C D e = same_lists ps qs (C.long ∙ sym D.long) (λ k d h. get_or_default ps k d Home h ∙ (each k ∙ get_or_default qs k Home d (omega (arith, C.long, D.long))))
    where
      low : IsLowest K (λ k. not (held_by V conf (set ps v Home) vs v k)) (D.takes 0 (omega arith)).0
      low = subst (λ (f : ℕ → Bool). IsLowest K f (D.takes 0 (omega arith)).0) (fun_ext (λ k. ap not (held-less V K conf left v vs qs D v vs (λ u m. m) k ∙ ap (λ z. held_by V conf z vs v k) (sym e)))) (D.takes 0 (omega arith)).1

      each : (k : ℕ) → get_or ps k Home ≡ get_or qs k Home
      each k = elim (cases_eq k v) [ inl q ↦ ap (λ z. get_or ps z Home) q ∙ (first_place V K conf left v vs ps C _ low ∙ (sym (D.takes 0 (omega arith)).2 ∙ ap (λ z. get_or qs z Home) (sym q))) | inr ne ↦ sym (kept_less V K conf left v vs ps C k ne) ∙ (ap (λ z. get_or z k Home) e ∙ kept_less V K conf left v vs qs D k ne) ]

  pub coloured_one : (o₁ o₂ : List ℕ) (left : ℕ → Bool) (ps qs : List Place) → Coloured V K conf left o₁ ps → Coloured V K conf left o₂ qs → (o₁ ≡ o₂) × (ps ≡ qs)
  coloured_one [] [] left ps qs C D = (refl, same_lists ps qs (C.long ∙ sym D.long) (λ k d h. get_or_default ps k d Home h ∙ (C.others k (omega (arith, C.long)) refl ∙ (sym (D.others k (omega (arith, C.long)) refl) ∙ get_or_default qs k Home d (omega (arith, C.long, D.long))))))
  coloured_one [] (v ∷ vs) left ps qs C D = absurd (absent left v vs ps qs C D)
  coloured_one (v ∷ vs) [] left ps qs C D = absurd (absent left v vs qs ps D C)
  coloured_one (v ∷ vs) (w ∷ ws) left ps qs C D =
      let e = next_one V K conf left v w (first V K conf left v vs ps C) (first V K conf left w ws qs D) in
      let D' : Coloured V K conf (less left v) ws (set qs v Home) = subst (λ (x : ℕ). Coloured V K conf (less left x) ws (set qs x Home)) (sym e) (coloured_less V K conf left w ws qs D) in
      let ih = coloured_one vs ws (less left v) (set ps v Home) (set qs v Home) (coloured_less V K conf left v vs ps C) D' in
      (ap₂ ◌∷◌ e ih.0, places_one left v vs ps qs C (subst (λ (o : List ℕ). Coloured V K conf left o qs) (sym (ap₂ ◌∷◌ e ih.0)) D) ih.1)

pub colouring_by_order_lem : ColouringByOrder
colouring_by_order_lem s L R = coloured_orders s.temporaries (R - 2) (conflict s L) (used s L)
