-- Lines published for consistent places pass the check.
use Rattle.std.proofs.Common.{◌≡◌, ℕ, zero, suc, ◌+◌, ◌-◌, ◌<◌, ◌≤◌, Bool, true, false, cond, not, ◌&&◌, ◌||◌, eqb, ltb, ◌⊎◌, List, [], ◌∷◌, ◌++◌, length, Some, None, sym, refl, ap, ◌∙◌, subst, inl, inr, arith}
use mathlib.Core.Bool.{false≢true}
use Rattle.std.proofs.lemmas.List.{get_or-map}
use Rattle.std.proofs.lemmas.Bool.{or_cases, or_left, or_right, and_parts, and_from, not-true, not_from_false, eqb-true, eqb-false, eq-eqb, ne_eqb, lt-ltb, ltb-true, ltb-false, cases_eq, cases_Bool, and_cases, both_ways}
use Rattle.sets.specs.Masks.{names}
use Rattle.sets.specs.Least.{Closed}
use Rattle.source.specs.Nodes.{result_of, Sound, node_at}
use Rattle.source.specs.Reading.{Source}
use Rattle.source.proofs.Soundness.{all_sound}
use Rattle.source.specs.declared.node.Condition.{Condition}
use Rattle.source.specs.declared.node.Node.{Node}
use Rattle.source.specs.declared.node.Node.TheVariants.{Const, Mov, Binary, Call, Branch, Return}
use Rattle.loader.specs.Live.{out_of, reads, into}
use Rattle.allocation.specs.Allocations.{Line, Allocation}
use Rattle.allocation.specs.Lines.{line_of}
use Rattle.allocation.specs.declared.line.Move.{Move}
use Rattle.equations.specs.Equations.{back_move, back_moves, renamed, dropped, used, after, before, equation_step}
use Rattle.equations.specs.Questions.{Matches, questions, elsewhere, overwritten, foreign, Clear, Passed}
use Rattle.places.specs.declared.place.Place.{Place}
use Rattle.places.specs.Places.{locations, copied, IsPlace, Consistent}
use Rattle.places.specs.Publish.{◌⇐◌, register_for, bring, bring_two, send, copy, first_register, second_register, published_line, entry_moves, published_allocation}
use Rattle.places.specs.Laws.{Loadable, Passes, ConsistentPlacesPass}

abbrev Eqs : Type 0
Eqs = ℕ × ℕ → Bool

-- of each equation of S, between location l and temporary v, P v l holds
abbrev Holds : Eqs → (ℕ → ℕ → Type 0) → Type 0
Holds S P = (e : ℕ × ℕ) → S e ≡ true → P e.1 e.0

-- no equation of E passes the test, where none can
clear_from : (E p : Eqs) → ((e : ℕ × ℕ) → E e ≡ true → p e ≡ true → ⊥) → Clear E p
clear_from E p h e = elim (cases_Bool (E e && p e)) [ inl y ↦ let q = and_parts _ _ y in absurd (h e q.0 q.1) | inr n ↦ n ]

over-move : (d o : ℕ) (S : Eqs) (P Q : ℕ → ℕ → Type 0) → Holds S P → ((v : ℕ) → P v d → Q v o) → ((v l : ℕ) → (l ≡ d → ⊥) → P v l → Q v l) → Holds (back_move (d ⇐ o) S) Q
unfolding back_move
over-move d o S P Q h at-d other e x =
    elim (or_cases _ _ x) [ inl y ↦ let p = and_parts _ _ y in other e.1 e.0 (eqb-false e.0 d (not-true _ p.1)) (h e p.0) | inr y ↦ let p = and_parts _ _ y in subst (λ (m : ℕ). Q e.1 m) (sym (eqb-true e.0 o p.0)) (at-d e.1 (h (d, e.1) p.1)) ]

over_none : (S : Eqs) → back_moves [] S ≡ S
unfolding back_moves
over_none S = refl

over_first : (m : Move) (ms : List Move) (S : Eqs) → back_moves (m ∷ ms) S ≡ back_move m (back_moves ms S)
unfolding back_moves
over_first m ms S = refl

over_one : (m : Move) (S : Eqs) → back_moves (m ∷ []) S ≡ back_move m S
unfolding back_moves
over_one m S = refl

over_two : (m n : Move) (S : Eqs) → back_moves (m ∷ n ∷ []) S ≡ back_move m (back_move n S)
unfolding back_moves
over_two m n S = refl

over_both : (xs ys : List Move) (S : Eqs) → back_moves (xs ++ ys) S ≡ back_moves xs (back_moves ys S)
unfolding back_moves
over_both [] ys S = refl
over_both (x ∷ xs) ys S = ap (back_move x) (over_both xs ys S)

module _ (R : ℕ) (place : ℕ → ℕ) (big : 3 ≤ R) (placed : (v : ℕ) → IsPlace R v (place v)) where
  -- no place is one of the two registers that are left free
  not_first : (v : ℕ) → place v ≡ R - 2 → ⊥
  not_first v e = elim (placed v) [ inl h ↦ omega arith | inr h ↦ omega arith ]

  not_second : (v : ℕ) → place v ≡ R - 1 → ⊥
  not_second v e = elim (placed v) [ inl h ↦ omega arith | inr h ↦ omega arith ]

  register_not_second : (v : ℕ) → first_register R place v ≡ R - 1 → ⊥
  register_not_second v = go (ltb (place v) R)
    where
      go : (b : Bool) → cond b (place v) (R - 2) ≡ R - 1 → ⊥
      go true e = not_second v e
      go false e = omega arith

  -- an operand at its register becomes the operand at its place
  over-bring : (t b : ℕ) (S : Eqs) (Q : ℕ → ℕ → Type 0) → Holds S (λ v l. ((v ≡ b) × (l ≡ register_for R t (place b))) ⊎ Q v l) → ((v : ℕ) → Q v t → ⊥) → Q b (place b) → Holds (back_moves (bring R t (place b)) S) Q
  over-bring t b S Q h none here = go (ltb (place b) R) h
    where
      at_place : (v l : ℕ) → v ≡ b → l ≡ place b → Q v l
      at_place v l e f = subst (λ (u : ℕ). Q u l) (sym e) (subst (λ (m : ℕ). Q b m) (sym f) here)

      go : (c : Bool) → Holds S (λ v l. ((v ≡ b) × (l ≡ cond c (place b) t)) ⊎ Q v l) → Holds (back_moves (cond c [] ((t ⇐ place b) ∷ [])) S) Q
      go true k = subst (λ (Z : Eqs). Holds Z Q) (sym (over_none S)) (λ e x. elim (k e x) [ inl p ↦ at_place e.1 e.0 p.0 p.1 | inr q ↦ q ])
      go false k =
          subst (λ (Z : Eqs). Holds Z Q) (sym (over_one (t ⇐ place b) S))
          (over-move t (place b) S (λ v l. ((v ≡ b) × (l ≡ t)) ⊎ Q v l) Q k (λ v x. elim x [ inl p ↦ at_place v (place b) p.0 refl | inr q ↦ absurd (none v q) ]) (λ v l ne x. elim x [ inl p ↦ absurd (ne p.1) | inr q ↦ q ]))

  -- a result at its place becomes the result at its register
  module _ (A : ℕ → Type 0) (d : ℕ) (differs : (v : ℕ) → A v → (v ≡ d → ⊥) → place v ≡ place d → ⊥) where
    abbrev Sent : ℕ → ℕ → Type 0
    Sent v l = ((v ≡ d) × (l ≡ first_register R place d)) ⊎ ((v ≡ d → ⊥) × A v × (l ≡ place v))

    abbrev After : Bool → ℕ → ℕ → Type 0
    After c v l = ((v ≡ d) × (l ≡ cond c (place d) (R - 2))) ⊎ ((v ≡ d → ⊥) × A v × (l ≡ place v))

    over-send : (S : Eqs) → Holds S (λ v l. A v × (l ≡ place v)) → Holds (back_moves (send R (place d)) S) Sent
    over-send S h = go (ltb (place d) R)
      where
        go : (c : Bool) → Holds (back_moves (cond c [] ((place d ⇐ (R - 2)) ∷ [])) S) (After c)
        go true = subst (λ (Z : Eqs). Holds Z (After true)) (sym (over_none S)) (λ e x. elim (cases_eq e.1 d) [ inl q ↦ inl (q, (h e x).1 ∙ ap place q) | inr ne ↦ inr (ne, (h e x).0, (h e x).1) ])
        go false =
            subst (λ (Z : Eqs). Holds Z (After false)) (sym (over_one (place d ⇐ (R - 2)) S))
            (over-move (place d) (R - 2) S (λ v l. A v × (l ≡ place v)) (After false) h (λ v p. elim (cases_eq v d) [ inl q ↦ inl (q, refl) | inr ne ↦ absurd (differs v p.0 ne (sym p.1)) ]) (λ v l off p. elim (cases_eq v d) [ inl q ↦ absurd (off (p.1 ∙ ap place q)) | inr ne ↦ inr (ne, p.0, p.1) ]))

    -- 33 and 34 are yes
    sent_passes : (S : Eqs) → Holds S Sent → Clear S (elsewhere (Some d) (first_register R place d)) × Clear S (overwritten (Some d) (first_register R place d))
    sent_passes S h =
        (clear_from S _ (λ e x y. let p = and_parts _ _ y in elim (h e x) [ inl q ↦ eqb-false _ _ (not-true _ p.1) q.1 | inr q ↦ q.0 (eqb-true _ _ p.0) ]), clear_from S _ (λ e x y. let p = and_parts _ _ y in elim (h e x) [ inl q ↦ eqb-false _ _ (not-true _ p.1) q.0 | inr q ↦ go (ltb (place d) R) e.1 q.0 q.1 (sym (eqb-true _ _ p.0) ∙ q.2) ]))
      where
        go : (c : Bool) (v : ℕ) → (v ≡ d → ⊥) → A v → cond c (place d) (R - 2) ≡ place v → ⊥
        go true v ne a e = differs v a ne (sym e)
        go false v ne a e = not_first v (sym e)

  -- a copy's result at its place becomes that result at the origin's place
  module _ (A : ℕ → Type 0) (d a : ℕ) (differs : (v : ℕ) → A v → (v ≡ d → ⊥) → (v ≡ a → ⊥) → place v ≡ place d → ⊥) where
    abbrev Kept : ℕ → ℕ → Type 0
    Kept v l = (v ≡ d → ⊥) × A v × (l ≡ place v)

    abbrev Copied : ℕ → ℕ → Type 0
    Copied v l = ((v ≡ d) × (l ≡ place a)) ⊎ Kept v l

    abbrev Half : ℕ → ℕ → Type 0
    Half v l = ((v ≡ d) × (l ≡ R - 2)) ⊎ Kept v l

    -- where the two places differ, only the result is at its place
    only : (place d ≡ place a → ⊥) → (v : ℕ) → A v → place v ≡ place d → v ≡ d
    only off v x e = elim (cases_eq v d) [ inl q ↦ q | inr ne ↦ absurd (differs v x ne (λ q. off (sym e ∙ ap place q)) e) ]

    off_place : (v l : ℕ) → (l ≡ place d → ⊥) → A v → l ≡ place v → Kept v l
    off_place v l off x e = (λ q. off (e ∙ ap place q), x, e)

    over-copy : (S : Eqs) → Holds S (λ v l. A v × (l ≡ place v)) → Holds (back_moves (copy R (place d) (place a)) S) Copied
    over-copy S h = same (eqb (place d) (place a)) refl
      where
        moved : (c : Bool) → (place d ≡ place a → ⊥) → Holds (back_moves (cond c ((place d ⇐ place a) ∷ []) (((R - 2) ⇐ place a) ∷ (place d ⇐ (R - 2)) ∷ [])) S) Copied
        moved true off =
            subst (λ (Z : Eqs). Holds Z Copied) (sym (over_one (place d ⇐ place a) S))
            (over-move (place d) (place a) S (λ v l. A v × (l ≡ place v)) Copied h (λ v p. inl (only off v p.0 (sym p.1), refl)) (λ v l ne p. inr (off_place v l ne p.0 p.1)))
        moved false off =
            subst (λ (Z : Eqs). Holds Z Copied) (sym (over_two ((R - 2) ⇐ place a) (place d ⇐ (R - 2)) S))
            (over-move (R - 2) (place a) (back_move (place d ⇐ (R - 2)) S) Half Copied
            (over-move (place d) (R - 2) S (λ v l. A v × (l ≡ place v)) Half h (λ v p. inl (only off v p.0 (sym p.1), refl)) (λ v l ne p. inr (off_place v l ne p.0 p.1)))
            (λ v x. elim x [ inl p ↦ inl (p.0, refl) | inr k ↦ absurd (not_first v (sym k.2)) ])
            (λ v l ne x. elim x [ inl p ↦ absurd (ne p.1) | inr k ↦ inr k ]))

        same : (c : Bool) → eqb (place d) (place a) ≡ c → Holds (back_moves (cond c [] (cond (ltb (place d) R || ltb (place a) R) ((place d ⇐ place a) ∷ []) (((R - 2) ⇐ place a) ∷ (place d ⇐ (R - 2)) ∷ []))) S) Copied
        same true q = subst (λ (Z : Eqs). Holds Z Copied) (sym (over_none S)) (λ e x. elim (cases_eq e.1 d) [ inl v ↦ inl (v, (h e x).1 ∙ ap place v ∙ eqb-true _ _ q) | inr ne ↦ inr (ne, (h e x).0, (h e x).1) ])
        same false q = moved _ (eqb-false _ _ q)

  -- (v, place of v) for each live v
  abbrev At : (ℕ → Bool) → ℕ → ℕ → Type 0
  At live v l = (live v ≡ true) × (l ≡ place v)

  -- back over two operands, and over what brings them
  over_two_operands : (a b : ℕ) (S : Eqs) (live : ℕ → Bool) → live a ≡ true → live b ≡ true → Holds S (At live) → Holds (back_moves (bring_two R (place a) (place b)) (used (a ∷ b ∷ []) (first_register R place a ∷ second_register R place b ∷ []) S)) (At live)
  unfolding used
  over_two_operands a b S live la lb h =
      subst (λ (Z : Eqs). Holds Z (At live)) (sym (over_both (bring R (R - 2) (place a)) (bring R (R - 1) (place b)) _))
      (over-bring (R - 2) a _ (At live)
      (over-bring (R - 1) b _ (λ v l. ((v ≡ a) × (l ≡ first_register R place a)) ⊎ At live v l) start
      (λ v x. elim x [ inl p ↦ register_not_second a (sym p.1) | inr p ↦ not_second v (sym p.1) ])
      (inr (lb, refl)))
      (λ v p. not_first v (sym p.1))
      (la, refl))
    where
      start : Holds (used (a ∷ b ∷ []) (first_register R place a ∷ second_register R place b ∷ []) S) (λ v l. ((v ≡ b) × (l ≡ second_register R place b)) ⊎ (((v ≡ a) × (l ≡ first_register R place a)) ⊎ At live v l))
      start e x =
          elim (or_cases _ _ x) [ inl y ↦ let p = and_parts _ _ y in inr (inl (eqb-true _ _ p.1, eqb-true _ _ p.0)) | inr y ↦ elim (or_cases _ _ y) [ inl z ↦ let p = and_parts _ _ z in inl (eqb-true _ _ p.1, eqb-true _ _ p.0) | inr z ↦ inr (inr (h e z)) ] ]

  -- back over one operand
  over_one_operand : (a : ℕ) (S : Eqs) (live : ℕ → Bool) → live a ≡ true → Holds S (At live) → Holds (back_moves (bring R (R - 2) (place a)) (used (a ∷ []) (first_register R place a ∷ []) S)) (At live)
  unfolding used
  over_one_operand a S live la h = over-bring (R - 2) a _ (At live) start (λ v p. not_first v (sym p.1)) (la, refl)
    where
      start : Holds (used (a ∷ []) (first_register R place a ∷ []) S) (λ v l. ((v ≡ a) × (l ≡ first_register R place a)) ⊎ At live v l)
      start e x = elim (or_cases _ _ x) [ inl y ↦ let p = and_parts _ _ y in inl (eqb-true _ _ p.1, eqb-true _ _ p.0) | inr y ↦ inr (h e y) ]

  -- one node, where each equation before its successors is of what is live, at its place
  module _ (N V : ℕ) (L : ℕ → ℕ → Bool) (X : ℕ → Eqs) (inside : (m : ℕ) → m < N → Holds (X m) (At (L m))) (n : ℕ) where
    abbrev Apart : Node → Type 0
    Apart node = (d v : ℕ) → result_of node ≡ Some d → out_of L node v ≡ true → (v ≡ d → ⊥) → names (copied node) v ≡ false → place v ≡ place d → ⊥

    abbrev line : Node → Line
    line = published_line R place

    abbrev Good : Node → Type 0
    Good node = Passed (questions n node (line node).main) (after X node (line node)) × Holds (before X node (line node)) (At (L n))

    abbrev Out : ℕ → ℕ → Type 0
    Out next v = L next v ≡ true

    abbrev Differs : ℕ → ℕ → Type 0
    Differs d next = (v : ℕ) → Out next v → (v ≡ d → ⊥) → place v ≡ place d → ⊥

    last_false : (x : Bool) → (x || false) ≡ true → x ≡ true
    last_false x e = elim (or_cases _ _ e) [ inl y ↦ y | inr z ↦ absurd (false≢true z) ]

    -- an operand is live, and so is what is live out and not the result
    uses_first : (a : ℕ) (x y : Bool) → ((eqb a a || x) || y) ≡ true
    uses_first a x y = or_left _ _ (or_left _ _ (eq-eqb a a refl))

    uses_second : (a b : ℕ) (x y : Bool) → ((eqb b a || (eqb b b || x)) || y) ≡ true
    uses_second a b x y = or_left _ _ (or_right (eqb b a) _ (or_left _ _ (eq-eqb b b refl)))

    stays : (x : Bool) (d v : ℕ) (y : Bool) → (v ≡ d → ⊥) → y ≡ true → (x || ((y || false) && not (eqb v d))) ≡ true
    stays x d v y ne e = or_right x _ (and_from _ _ (or_left _ _ e) (not_from_false _ (ne_eqb v d ne)))

    -- the set after a node that sets d, and has one edge
    sent_after : (d next : ℕ) → next < N → (df : Differs d next) → (S : Eqs) → ((e : ℕ × ℕ) → S e ≡ true → back_moves (send R (place d)) (X next) e ≡ true) → Holds S (Sent (Out next) d df)
    sent_after d next h df S back e x = over-send (Out next) d df (X next) (inside next h) e (back e x)

    -- back over a main line that sets d: what is left is live into the node
    rest : (d next m : ℕ) (df : Differs d next) (S : Eqs) → Holds S (Sent (Out next) d df) → ((v : ℕ) → (v ≡ d → ⊥) → Out next v → L n v ≡ true) → Holds (dropped (Some d) (Some m) S) (At (L n))
    unfolding dropped
    rest d next m df S h live e x =
        let p = and_parts _ _ x in
        let q = and_parts _ _ p.0 in
        let ne = eqb-false e.1 d (not-true _ q.1) in
        elim (h e q.0) [ inl y ↦ absurd (ne y.0) | inr y ↦ (live e.1 ne y.1, y.2) ]

    passed : (d next : ℕ) (df : Differs d next) (S : Eqs) → Holds S (Sent (Out next) d df) → Clear S (elsewhere (Some d) (first_register R place d)) × (Clear S (overwritten (Some d) (first_register R place d)) × Unit {0})
    passed d next df S h = let p = sent_passes (Out next) d df S h in (p.0, (p.1, tt))

    -- back over a copy: the result at its origin's place is the origin at its place
    renamed_live : (d a next : ℕ) → next < N → ((v : ℕ) → Out next v → (v ≡ d → ⊥) → (v ≡ a → ⊥) → place v ≡ place d → ⊥) → L n a ≡ true → ((v : ℕ) → (v ≡ d → ⊥) → Out next v → L n v ≡ true) → (S : Eqs) → ((e : ℕ × ℕ) → S e ≡ true → back_moves (copy R (place d) (place a)) (X next) e ≡ true) → Holds (renamed d a S) (At (L n))
    unfolding renamed
    renamed_live d a next h df la live S back e x =
        let c = over-copy (Out next) d a df (X next) (inside next h) in
        elim (or_cases _ _ x) [ inl y ↦ let p = and_parts _ _ y in let ne = eqb-false e.1 d (not-true _ p.1) in elim (c e (back e p.0)) [ inl q ↦ absurd (ne q.0) | inr q ↦ (live e.1 ne q.1, q.2) ] | inr y ↦ let p = and_parts _ _ y in let va = eqb-true e.1 a p.0 in elim (c (e.0, d) (back (e.0, d) p.1)) [ inl q ↦ (ap (L n) va ∙ la, q.1 ∙ ap place (sym va)) | inr q ↦ absurd (q.0 refl) ] ]

    -- what is live into a successor of a branch is live into it
    branched : (c : Condition) (a b taken other : ℕ) → taken < N → other < N → ((v : ℕ) → into L (Branch c a b taken other) v ≡ true → L n v ≡ true) → Holds (dropped None None (after X (Branch c a b taken other) (line (Branch c a b taken other)))) (At (L n))
    unfolding dropped after back_moves
    branched c a b taken other ht ho closed e x =
        let p = (and_parts _ _ (and_parts _ _ x).0).0 in
        elim (or_cases _ _ p) [ inl y ↦ let q = inside taken ht e y in (closed e.1 (lives (or_left _ _ q.0)), q.1) | inr y ↦ let q = inside other ho e (last_false _ y) in (closed e.1 (lives (or_right (L taken e.1) _ (or_left _ _ q.0))), q.1) ]
      where
        lives : out_of L (Branch c a b taken other) e.1 ≡ true → into L (Branch c a b taken other) e.1 ≡ true
        lives z = or_right (reads (Branch c a b taken other) e.1) _ (and_from _ _ z refl)

    -- no equation is left after a return
    returned : (a : ℕ) → Holds (dropped None None (after X (Return a) (line (Return a)))) (At (L n))
    unfolding dropped after
    returned a e x = absurd (false≢true x)

    good : (node : Node) → Sound V N node → ((v : ℕ) → into L node v ≡ true → L n v ≡ true) → Apart node → Good node
    unfolding after used back_moves
    good (Const d k next) snd closed apart =
        let df : Differs d next = λ v x ne. apart d v refl (or_left _ _ x) ne refl in
        let S = after X (Const d k next) (line (Const d k next)) in
        let h = sent_after d next snd.2 df S (λ e. last_false _) in
        (passed d next df S h, rest d next _ df S h (λ v ne x. closed v (stays false d v _ ne x)))
    good (Mov d a next) snd closed apart =
        let df : (v : ℕ) → Out next v → (v ≡ d → ⊥) → (v ≡ a → ⊥) → place v ≡ place d → ⊥ = λ v x ne na. apart d v refl (or_left _ _ x) ne (ne_eqb v a na) in
        (tt, renamed_live d a next snd.2 df (closed a (uses_first a false _)) (λ v ne x. closed v (stays _ d v _ ne x)) (after X (Mov d a next) (line (Mov d a next))) (λ e. last_false _))
    good (Binary o d a b next) snd closed apart =
        let df : Differs d next = λ v x ne. apart d v refl (or_left _ _ x) ne refl in
        let S = after X (Binary o d a b next) (line (Binary o d a b next)) in
        let h = sent_after d next snd.3 df S (λ e. last_false _) in
        (passed d next df S h, over_two_operands a b _ (L n) (closed a (uses_first a _ _)) (closed b (uses_second a b false _)) (rest d next _ df S h (λ v ne x. closed v (stays _ d v _ ne x))))
    good (Call d g a b next) snd closed apart =
        let df : Differs d next = λ v x ne. apart d v refl (or_left _ _ x) ne refl in
        let S = after X (Call d g a b next) (line (Call d g a b next)) in
        let h = sent_after d next snd.4 df S (λ e. last_false _) in
        (passed d next df S h, over_two_operands a b _ (L n) (closed a (uses_first a _ _)) (closed b (uses_second a b false _)) (rest d next _ df S h (λ v ne x. closed v (stays _ d v _ ne x))))
    good (Branch c a b taken other) snd closed apart =
        (tt, over_two_operands a b _ (L n) (closed a (uses_first a _ _)) (closed b (uses_second a b false _)) (branched c a b taken other snd.2 snd.3 closed))
    good (Return a) snd closed apart = (tt, over_one_operand a _ (L n) (closed a (uses_first a false _)) (returned a))

  -- back over the entry moves of the parameters from i on
  module _ (P : ℕ) (live : ℕ → Bool) (arrive : (v : ℕ) → live v ≡ true → v < P) (differ : (u v : ℕ) → u < P → v < P → live u ≡ true → live v ≡ true → (u ≡ v → ⊥) → place u ≡ place v → ⊥) (S : Eqs) (inside : Holds S (At live)) where
    abbrev From : ℕ → ℕ → ℕ → Type 0
    From i v l = (live v ≡ true) × (((v < i) × (l ≡ place v)) ⊎ ((i ≤ v) × (l ≡ R + v)))

    below : (v i : ℕ) → v < suc i → (v ≡ i → ⊥) → v < i
    below v i h ne = omega arith

    over : (i v : ℕ) → place i < R → place i ≡ R + v → ⊥
    over i v h e = omega arith

    -- the step at parameter i, with its move or without
    entry_step : (i : ℕ) (b : Bool) (ms : List Move) → (live i && ltb (place i) R) ≡ b → Holds (back_moves ms S) (From (suc i)) → Holds (back_moves (cond b ((place i ⇐ (R + i)) ∷ ms) ms) S) (From i)
    entry_step i true ms eq ih =
        let p = and_parts (live i) (ltb (place i) R) eq in
        let low : place i < R = ltb-true (place i) R p.1 in
        subst (λ (Z : Eqs). Holds Z (From i)) (sym (over_first (place i ⇐ (R + i)) ms S))
        (over-move (place i) (R + i) _ (From (suc i)) (From i) ih
        (λ v x. elim x.1 [ inl y ↦ elim (cases_eq v i) [ inl q ↦ (x.0, inr (omega arith, ap (λ u. R + u) (sym q))) | inr ne ↦ absurd (differ v i (arrive v x.0) (arrive i p.0) x.0 p.0 ne (sym y.1)) ] | inr y ↦ absurd (over i v low y.1) ])
        (λ v l off x. elim x.1 [ inl y ↦ elim (cases_eq v i) [ inl q ↦ absurd (off (y.1 ∙ ap place q)) | inr ne ↦ (x.0, inl (below v i y.0 ne, y.1)) ] | inr y ↦ (x.0, inr (omega arith, y.1)) ]))
    entry_step i false ms eq ih =
        λ e x. let p = ih e x in let v = e.1 in elim p.1 [ inl y ↦ elim (cases_eq v i) [ inl q ↦ (p.0, inr (omega arith, y.1 ∙ home v (elim (and_cases _ _ eq) [ inl z ↦ absurd (both_ways _ z (ap live (sym q) ∙ p.0)) | inr z ↦ ap (λ u. ltb (place u) R) q ∙ z ]))) | inr ne ↦ (p.0, inl (below v i y.0 ne, y.1)) ] | inr y ↦ (p.0, inr (omega arith, y.1)) ]
      where
        home : (v : ℕ) → ltb (place v) R ≡ false → place v ≡ R + v
        home v z = elim (placed v) [ inl h ↦ let w = ltb-false _ _ z in omega arith | inr h ↦ h ]

    entered : (i k : ℕ) → i + k ≡ P → Holds (back_moves (entry_moves R place live i k) S) (From i)
    entered i zero q = subst (λ (Z : Eqs). Holds Z (From i)) (sym (over_none S)) (λ e x. let p = inside e x in (p.0, inl (omega (arith, arrive e.1 p.0), p.1)))
    entered i (suc k) q = entry_step i (live i && ltb (place i) R) (entry_moves R place live (suc i) k) refl (entered (suc i) k (omega arith))

    -- 36 is yes
    enters : Clear (back_moves (entry_moves R place live 0 P) S) (foreign R P)
    enters = clear_from _ _ (λ e x y. let p = entered 0 P (omega arith) e x in let v = e.1 in elim p.1 [ inl q ↦ omega arith | inr q ↦ both_ways _ (not-true _ y) (and_from _ _ (lt-ltb v P (arrive v p.0)) (eq-eqb _ _ q.1)) ])

-- a published main line is one of its node
pub main_matches : (R : ℕ) (place : ℕ → ℕ) (node : Node) → Matches node (published_line R place node).main
main_matches R place (Const d k next) = refl
main_matches R place (Mov d a next) = refl
main_matches R place (Binary o d a b next) = refl
main_matches R place (Call d h a b next) = refl
main_matches R place (Branch c a b taken other) = refl
main_matches R place (Return a) = refl

module _ (s : Source) (L : ℕ → ℕ → Bool) (R : ℕ) (ps : List Place) (ok : Loadable s L) (big : 3 ≤ R) (good-places : Consistent s R L (locations R ps)) where
  abbrev N : ℕ
  N = length s.nodes

  abbrev node : ℕ → Node
  node n = node_at s.nodes n

  abbrev place : ℕ → ℕ
  place = locations R ps

  abbrev a : Allocation
  a = published_allocation s L R ps

  line_is : (n : ℕ) → n < N → line_of a n ≡ published_line R place (node n)
  line_is n h = get_or-map (published_line R place) s.nodes n (Const 0 0 0) _ h

  closed : (n : ℕ) → n < N → (v : ℕ) → into L (node n) v ≡ true → L n v ≡ true
  closed n h v e = ok.live.solves n h v ∙ e

  -- each live temporary at its place
  abbrev at_places : ℕ → Eqs
  at_places n e = L n e.1 && eqb e.0 (place e.1)

  at_place : (n : ℕ) → Holds (at_places n) (At R place big good-places.placed (L n))
  at_place n e x = let p = and_parts _ _ x in (p.0, eqb-true _ _ p.1)

  module _ (X : ℕ → Eqs) (inside : (m : ℕ) → m < N → Holds (X m) (At R place big good-places.placed (L m))) where
    node_good : (n : ℕ) (h : n < N) → Good R place big good-places.placed N s.temporaries L X inside n (node n)
    node_good n h = good R place big good-places.placed N s.temporaries L X inside n (node n) (all_sound s.temporaries s.nodes ok.sound n h) (closed n h) (good-places.apart n h)

    node_passes : (n : ℕ) → n < N → Passed (questions n (node n) (line_of a n).main) (after X (node n) (line_of a n))
    node_passes n h = subst (λ (l : Line). Passed (questions n (node n) l.main) (after X (node n) l)) (sym (line_is n h)) (node_good n h).0

    node_before : (n : ℕ) → n < N → Holds (equation_step s a X n) (At R place big good-places.placed (L n))
    node_before n h = subst (λ (l : Line). Holds (before X (node n) l) (At R place big good-places.placed (L n))) (sym (line_is n h)) (node_good n h).1

  at_places_closed : Closed N (equation_step s a) at_places
  at_places_closed n h e x = let p = node_before at_places (λ m _. at_place m) n h e x in and_from _ _ p.0 (eq-eqb _ _ p.1)

  accepted : Passes s a
  accepted size room X least =
      record { ready = record { room = room; matches = λ n h. subst (λ (l : Line). Matches (node n) l.main) (sym (line_is n h)) (main_matches R place (node n)) }; least = least; nodes = node_passes X inside; entry = enters R place big good-places.placed s.parameters (L 0) ok.entry good-places.entry (X 0) (inside 0 ok.some) }
    where
      inside : (n : ℕ) → n < N → Holds (X n) (At R place big good-places.placed (L n))
      inside n h e x = at_place n e (least.least at_places at_places_closed n h e x)

pub consistent_places_pass_lem : ConsistentPlacesPass
consistent_places_pass_lem s L R ps ok low high c = accepted s L R ps ok low c
