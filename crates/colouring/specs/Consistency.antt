-- Coloured places are consistent.
use Rattle.std.specs.Prelude.{◌≡◌, ℕ, zero, suc, ◌-◌, ◌<◌, ◌≤◌, Bool, true, false, not, ◌&&◌, ◌||◌, ◌⊎◌, List, length, get_or, replicate, IfSome, Some, None, Option, ◌≢◌, slice_index_or, slice_set, refl}
use Rattle.std.proofs.Common.{sym, ap, subst, ◌∙◌, inl, inr, arith, length-set}
use Rattle.std.proofs.lemmas.List.{get_or-set_same, get_or-set_other, get_or_past, length-replicate}
use Rattle.std.proofs.lemmas.Bool.{or_cases, or_left, or_right, and_parts, and_from, and_left, and_right, cases_eq, cases_lt, lt-ltb, both_ways, not-true, not_from_false, eq-eqb, ne_eqb}
use Rattle.sets.specs.Masks.{names}
use Rattle.source.specs.Nodes.{result_of, node_at}
use Rattle.loader.specs.Live.{out_of, is_result}
use Rattle.places.specs.declared.place.Place.{Place}
use Rattle.places.specs.declared.place.Place.TheVariants.{Register, Home}
use Rattle.source.specs.Reading.{Source}
use Rattle.places.specs.Places.{IsPlace, Consistent, location, locations, copied, Owed}
use Rattle.places.specs.Homes.{getD_homes}
use Rattle.colouring.specs.Colouring.{lowest_of, demands, demanded, arrives, conflict, used, holds, held, to_place, less, next, chosen, after, coloured, colouring}
use Rattle.colouring.specs.Chosen.{IsLowest}
use Rattle.colouring.specs.Searches.{some_false, some_none, some_true, lowest_is, next_within}

home_not_reg : (p : Place) (r : ℕ) → p ≡ Home → p ≢ Register r
home_not_reg p r a b = let z : ◌≡◌ {A = ℕ} 0 1 = cc in omega arith

module _ (V K : ℕ) (conf : ℕ → ℕ → Bool) (turned : (u v : ℕ) → conf u v ≡ true → conf v u ≡ true) (apart : (u : ℕ) → conf u u ≡ false) where
  -- registers are below K, and those of temporaries in conflict differ
  pub record Good (ps : List Place) : Type 0 where
    pub long : length ps ≡ V
    pub low : (v r : ℕ) → slice_index_or ps v Home ≡ Register r → r < K
    pub differ : (u v r : ℕ) → conf u v ≡ true → slice_index_or ps u Home ≡ Register r → slice_index_or ps v Home ≢ Register r

  pub good_homes : Good (replicate V Home)
  good_homes = record { long = length-replicate V Home; low = λ v r e. absurd (home_not_reg _ r (getD_homes V v) e); differ = λ u v r c e f. home_not_reg _ r (getD_homes V u) e }

  holds_reg : (p : Place) (r : ℕ) → p ≡ Register r → holds p r ≡ true
  holds_reg p r e = ap (λ x. holds x r) e ∙ eq-eqb r r refl

  -- the register taken is below K and held by no temporary in conflict
  taken : (ps : List Place) → Good ps → (v r : ℕ) → chosen V K conf ps v ≡ Register r → (r < K) × ((u : ℕ) → conf v u ≡ true → slice_index_or ps u Home ≢ Register r)
  taken ps g v r = go (lowest_of K (λ x. not (held V (conf v) ps x))) (lowest_is K (λ x. not (held V (conf v) ps x)))
    where
      go : (o : Option ℕ) → IsLowest K (λ x. not (held V (conf v) ps x)) o → to_place o ≡ Register r → (r < K) × ((u : ℕ) → conf v u ≡ true → slice_index_or ps u Home ≢ Register r)
      go None h e = absurd (home_not_reg Home r refl e)
      go (Some x) h e =
          let q : x ≡ r = cc in
          (subst (λ (y : ℕ). y < K) q h.0, λ u c k. elim (cases_lt u V) [ inl lt ↦ both_ways _ (some_false V (λ u. conf v u && holds (slice_index_or ps u Home) x) (not-true _ h.1.here) u lt) (and_from _ _ c (holds_reg _ x (k ∙ ap Register (sym q)))) | inr ge ↦ home_not_reg _ r (get_or_past ps u Home (subst (λ (n : ℕ). n ≤ u) (sym g.long) ge)) k ])

  good_set : (ps : List Place) → Good ps → (v : ℕ) → Good (slice_set ps v (chosen V K conf ps v))
  good_set ps g v = record { long = length-set ps v _ ∙ g.long; low = λ u r e. elim (read u) [ inl x ↦ g.low u r (sym x ∙ e) | inr x ↦ (taken ps g v r (sym x.1 ∙ e)).0 ]; differ = λ u w r c e f. elim (read u) [ inl x ↦ elim (read w) [ inl y ↦ g.differ u w r c (sym x ∙ e) (sym y ∙ f) | inr y ↦ (taken ps g v r (sym y.1 ∙ f)).1 u (ap (λ z. conf z u) (sym y.0) ∙ turned u w c) (sym x ∙ e) ] | inr x ↦ elim (read w) [ inl y ↦ (taken ps g v r (sym x.1 ∙ e)).1 w (ap (λ z. conf z w) (sym x.0) ∙ c) (sym y ∙ f) | inr y ↦ both_ways _ (apart v) (ap (λ z. conf v z) (sym y.0) ∙ ap (λ z. conf z w) (sym x.0) ∙ c) ] ] }
    where
      read : (u : ℕ) → (slice_index_or (slice_set ps v (chosen V K conf ps v)) u Home ≡ slice_index_or ps u Home) ⊎ ((u ≡ v) × (slice_index_or (slice_set ps v (chosen V K conf ps v)) u Home ≡ chosen V K conf ps v))
      read u = elim (cases_eq u v) [ inl q ↦ elim (cases_lt v (length ps)) [ inl h ↦ inr (q, ap (λ z. get_or (slice_set ps v (chosen V K conf ps v)) z Home) q ∙ get_or-set_same ps v _ Home h) | inr h ↦ inl (get_or_past _ u Home (past u q h) ∙ sym (get_or_past ps u Home (subst (λ (z : ℕ). length ps ≤ z) (sym q) h))) ] | inr ne ↦ inl (get_or-set_other ps v u _ Home ne) ]
        where
          past : (u : ℕ) → u ≡ v → length ps ≤ v → length (slice_set ps v (chosen V K conf ps v)) ≤ u
          past u q h = omega (arith, length-set ps v (chosen V K conf ps v))

  pub good_colour : (k : ℕ) (left : ℕ → Bool) → Good (coloured V K conf k left)
  good_colour zero left = good_homes
  good_colour (suc k) left = go (next V K conf left) (λ v. good_colour k (less left v))
    where
      go : (o : Option ℕ) → ((v : ℕ) → Good (coloured V K conf k (less left v))) → Good (after V K conf o (λ v. coloured V K conf k (less left v)))
      go None ih = good_homes
      go (Some v) ih = good_set _ (ih v) v

  -- so the locations of temporaries in conflict differ
  located : (R u v : ℕ) (p q : Place) → K ≤ R - 2 → 3 ≤ R → (u ≢ v) → ((r : ℕ) → p ≡ Register r → r < K) → ((r : ℕ) → q ≡ Register r → r < K) → ((r : ℕ) → p ≡ Register r → q ≢ Register r) → location R u p ≢ location R v q
  located R u v (Register x) (Register y) k big ne lp lq d e = d x refl (ap Register (sym e))
  located R u v (Register x) Home k big ne lp lq d e = omega (arith, lp x refl)
  located R u v Home (Register y) k big ne lp lq d e = omega (arith, lq y refl)
  located R u v Home Home k big ne lp lq d e = ne (omega arith)

  is_place : (R v : ℕ) (p : Place) → K ≤ R - 2 → ((r : ℕ) → p ≡ Register r → r < K) → IsPlace R v (location R v p)
  is_place R v (Register x) k low = inl (omega (arith, low x refl))
  is_place R v Home k low = inr refl

or_turn : (x y : Bool) → (x || y) ≡ true → (y || x) ≡ true
or_turn x y e = elim (or_cases x y e) [ inl a ↦ or_right y x a | inr b ↦ or_left y x b ]

and_turn : (x y : Bool) → (x && y) ≡ true → (y && x) ≡ true
and_turn x y e = let p = and_parts x y e in and_from y x p.1 p.0

module _ (s : Source) (L : ℕ → ℕ → Bool) where
  pub conflict_turn : (u v : ℕ) → conflict s L u v ≡ true → conflict s L v u ≡ true
  conflict_turn u v e =
      let p = and_parts _ _ e in
      let ne : u ≡ v → ⊥ = λ q. both_ways _ (not-true _ p.1) (eq-eqb v u (sym q)) in
      and_from _ _
      (elim (or_cases _ _ p.0) [ inl x ↦ or_left _ _ (or_turn (demanded s L u v) (demanded s L v u) x) | inr x ↦ or_right (demanded s L v u || demanded s L u v) _ (and_turn (arrives s L u) (arrives s L v) x) ])
      (not_from_false _ (ne_eqb u v ne))

  pub conflict_self : (u : ℕ) → conflict s L u u ≡ false
  conflict_self u = and_right _ _ (ap not (eq-eqb u u refl))

  -- what a node demands, and what arrivals do, is a conflict
  pub conflict_result : (n d v : ℕ) → n < length s.nodes → result_of (node_at s.nodes n) ≡ Some d → out_of L (node_at s.nodes n) v ≡ true → (v ≢ d) → names (copied (node_at s.nodes n)) v ≡ false → conflict s L v d ≡ true
  conflict_result n d v h e x ne c =
      and_from _ _
      (or_left _ _ (or_right (demanded s L v d) _ (some_true (length s.nodes) (λ n. demands L (node_at s.nodes n) d v) n h (and_from _ _ (ap (λ (o : Option ℕ). names o d) e ∙ eq-eqb d d refl) (and_from _ _ x (not_from_false _ c))))))
      (not_from_false _ (ne_eqb d v (λ q. ne (sym q))))

  pub conflict_entry : (u v : ℕ) → u < s.parameters → v < s.parameters → L 0 u ≡ true → L 0 v ≡ true → (u ≢ v) → conflict s L u v ≡ true
  conflict_entry u v hu hv lu lv ne =
      and_from _ _ (or_right (demanded s L u v || demanded s L v u) _ (and_from _ _ (and_from _ _ (lt-ltb _ _ hu) lu) (and_from _ _ (lt-ltb _ _ hv) lv))) (not_from_false _ (ne_eqb v u (λ q. ne (sym q))))

  -- every list of places whose registers are below R - 2 and differ in conflict is consistent
  pub good_consistent : (R : ℕ) → 3 ≤ R → (ps : List Place) → Good s.temporaries (R - 2) (conflict s L) conflict_turn conflict_self ps → Consistent s R L (locations R ps)
  good_consistent R big ps g = record {
    placed = λ v. is_place s.temporaries (R - 2) (conflict s L) conflict_turn conflict_self R v _ (omega arith) (λ r e. g.low v r e);
    apart = λ n h d v e x ne c q. apart' v d (conflict_result n d v h e x ne c) ne q;
    entry = λ u v hu hv lu lv ne q. apart' u v (conflict_entry u v hu hv lu lv ne) ne q;
  }
    where
      apart' : (u v : ℕ) → conflict s L u v ≡ true → (u ≢ v) → locations R ps u ≢ locations R ps v
      apart' u v c ne q = located s.temporaries (R - 2) (conflict s L) conflict_turn conflict_self R u v (slice_index_or ps u Home) (slice_index_or ps v Home) (omega arith) big ne (λ r e. g.low u r e) (λ r e. g.low v r e) (λ r e f. g.differ u v r c e f) q

-- what is not left stays at home
home_unless_left : (V K : ℕ) (conf : ℕ → ℕ → Bool) (turns : ℕ) (left : ℕ → Bool) (u : ℕ) → left u ≡ false → slice_index_or (coloured V K conf turns left) u Home ≡ Home
home_unless_left V K conf zero left u e = getD_homes V u
home_unless_left V K conf (suc turns) left u e = go (next V K conf left) (next_within V K conf left) (λ v. home_unless_left V K conf turns (less left v) u (and_left (left u) _ e))
  where
    go : (o : Option ℕ) → IfSome o (λ v. (v < V) × (left v ≡ true)) → ((v : ℕ) → slice_index_or (coloured V K conf turns (less left v)) u Home ≡ Home) → slice_index_or (after V K conf o (λ v. coloured V K conf turns (less left v))) u Home ≡ Home
    go None c ih = getD_homes V u
    go (Some v) c ih = get_or-set_other (coloured V K conf turns (less left v)) v u _ Home (λ q. both_ways (left u) e (ap left q ∙ c.1)) ∙ ih v

pub colouring_owed : (s : Source) (L : ℕ → ℕ → Bool) (R : ℕ) → 3 ≤ R → Owed s R L (colouring s L R)
colouring_owed s L R big =
    let good = good_colour s.temporaries (R - 2) (conflict s L) (conflict_turn s L) (conflict_self s L) s.temporaries (used s L) in
    record {
      long = good.long;
      consistent = good_consistent s L R big (colouring s L R) good;
      unused = λ v h u. home_unless_left s.temporaries (R - 2) (conflict s L) s.temporaries (used s L) v (some_none (length s.nodes) (λ n. L n v || is_result (node_at s.nodes n) v) u);
    }
