-- Temporaries and cells that agree on a set of equations, and how each step keeps it.
use Rattle.std.proofs.Common.{◌≡◌, ℕ, ◌<◌, ◌≤◌, Bool, true, false, cond, not, ◌&&◌, ◌||◌, eqb, List, [], ◌∷◌, map, length, get_or, set, Some, None, sym, refl, ap, ◌∙◌, ap₂, ⊎_elim, arith, length-set, get_or-set_other, get_or-set_same}
use Rattle.std.proofs.lemmas.Bool.{cases_eq, eq-eqb, ne_eqb}
use Rattle.std.specs.List.{AllByRecursion}
use Rattle.allocation.specs.declared.line.Move.{Move}
use Rattle.equations.specs.Equations.{back_move, back_moves, renamed, dropped, used}
use Rattle.values.specs.Kinds.{Arithmetic}
use Rattle.machine.specs.Machine.{Cells, assign, read, move_one, move_all}

kept : (e b r : Bool) → e ≡ true → b ≡ false → ((e && not b) || r) ≡ true
kept e b r p q = rw (p, q)

turned : (q b e : Bool) → b ≡ true → e ≡ true → (q || (b && e)) ≡ true
turned true b e p r = refl
turned false b e p r = rw (p, r)

kept_both : (e a b : Bool) → e ≡ true → a ≡ false → b ≡ false → ((e && not a) && not b) ≡ true
kept_both e a b p q r = rw (p, q, r)

or_right : (a b : Bool) → b ≡ true → (a || b) ≡ true
or_right true b p = refl
or_right false b p = p

both : (a b : Bool) → a ≡ true → b ≡ true → (r : Bool) → ((a && b) || r) ≡ true
both a b p q r = rw (p, q)

-- what is in the sets
module _ (E : ℕ × ℕ → Bool) where
  moved_other : (m : Move) (l v : ℕ) → (l ≡ m.to → ⊥) → E (l, v) ≡ true → back_move m E (l, v) ≡ true
  unfolding back_move
  moved_other m l v p e = kept (E (l, v)) (eqb l m.to) (eqb l m.from && E (m.to, v)) e (ne_eqb l m.to p)

  moved_same : (m : Move) (v : ℕ) → E (m.to, v) ≡ true → back_move m E (m.from, v) ≡ true
  unfolding back_move
  moved_same m v e = turned (E (m.from, v) && not (eqb m.from m.to)) (eqb m.from m.from) (E (m.to, v)) (eq-eqb m.from m.from refl) e

  renamed_other : (d a l v : ℕ) → (v ≡ d → ⊥) → E (l, v) ≡ true → renamed d a E (l, v) ≡ true
  unfolding renamed
  renamed_other d a l v p e = kept (E (l, v)) (eqb v d) (eqb v a && E (l, d)) e (ne_eqb v d p)

  renamed_same : (d a l : ℕ) → E (l, d) ≡ true → renamed d a E (l, a) ≡ true
  unfolding renamed
  renamed_same d a l e = turned (E (l, a) && not (eqb a d)) (eqb a a) (E (l, d)) (eq-eqb a a refl) e

  dropped-none : (l v : ℕ) → E (l, v) ≡ true → dropped None None E (l, v) ≡ true
  unfolding dropped
  dropped-none l v e = kept_both (E (l, v)) false false e refl refl

  dropped_other : (d t l v : ℕ) → (v ≡ d → ⊥) → (l ≡ t → ⊥) → E (l, v) ≡ true → dropped (Some d) (Some t) E (l, v) ≡ true
  unfolding dropped
  dropped_other d t l v p q e = kept_both (E (l, v)) (eqb v d) (eqb l t) e (ne_eqb v d p) (ne_eqb l t q)

  dropped-unset : (d l v : ℕ) → (v ≡ d → ⊥) → E (l, v) ≡ true → dropped (Some d) None E (l, v) ≡ true
  unfolding dropped
  dropped-unset d l v p e = kept_both (E (l, v)) (eqb v d) false e (ne_eqb v d p) refl

  used_more : (a r : ℕ) (vs rs : List ℕ) (l v : ℕ) → used vs rs E (l, v) ≡ true → used (a ∷ vs) (r ∷ rs) E (l, v) ≡ true
  unfolding used
  used_more a r vs rs l v e = or_right (eqb l r && eqb v a) (used vs rs E (l, v)) e

  used_here : (a r : ℕ) (vs rs : List ℕ) → used (a ∷ vs) (r ∷ rs) E (r, a) ≡ true
  unfolding used
  used_here a r vs rs = both (eqb r r) (eqb a a) (eq-eqb r r refl) (eq-eqb a a refl) (used vs rs E (r, a))

  used_within : (vs rs : List ℕ) (l v : ℕ) → E (l, v) ≡ true → used vs rs E (l, v) ≡ true
  unfolding used
  used_within [] rs l v e = e
  used_within (a ∷ vs) [] l v e = e
  used_within (a ∷ vs) (r ∷ rs) l v e = or_right (eqb l r && eqb v a) (used vs rs E (l, v)) (used_within vs rs l v e)

module _ {V : Type 0} (K : Arithmetic V) where
  -- each equation of the set holds
  abbrev pub Agree : (ℕ × ℕ → Bool) → (ℕ → V) → List V → Type 0
  Agree E f cs = (l v : ℕ) → E (l, v) ≡ true → f v ≡ read K cs l

  agree_move : (m : Move) (E : ℕ × ℕ → Bool) (f : ℕ → V) (c : Cells V) → m.to < length c.cells → Agree (back_move m E) f c.cells → Agree E f (move_one K m c).cells
  agree_move m E f c within h l v e = ⊎_elim same differs (cases_eq l m.to)
    where
      z : V
      z = K.constant 0

      x : V
      x = read K c.cells m.from

      same : l ≡ m.to → f v ≡ read K (move_one K m c).cells l
      same p =
          h m.from v (moved_same E m v (ap (λ i. E (i, v)) (sym p) ∙ e)) ∙ sym (get_or-set_same c.cells m.to x z within) ∙ ap (λ i. get_or (set c.cells m.to x) i z) (sym p)

      differs : (l ≡ m.to → ⊥) → f v ≡ read K (move_one K m c).cells l
      differs p = h l v (moved_other E m l v p e) ∙ sym (get_or-set_other c.cells m.to l x z p)

  pub length_moves : (ms : List Move) (c : Cells V) → length (move_all K ms c).cells ≡ length c.cells
  length_moves [] c = refl
  length_moves (m ∷ ms) c = length_moves ms (move_one K m c) ∙ length-set c.cells m.to (read K c.cells m.from)

  pub agree_moves : (ms : List Move) (E : ℕ × ℕ → Bool) (f : ℕ → V) (c : Cells V) (k : ℕ) → k ≤ length c.cells → AllByRecursion (λ m. m.to < k) ms → Agree (back_moves ms E) f c.cells → Agree E f (move_all K ms c).cells
  unfolding back_moves
  agree_moves [] E f c k room within h = h
  agree_moves (m ∷ ms) E f c k room within h =
      agree_moves ms E f (move_one K m c) k (rw (length-set c.cells m.to (read K c.cells m.from)) room) within.1 (agree_move m (back_moves ms E) f c (omega (arith, within.0)) h)

  pub agree_used : (vs rs : List ℕ) (E : ℕ × ℕ → Bool) (f : ℕ → V) (cs : List V) → Agree (used vs rs E) f cs → Agree E f cs
  agree_used vs rs E f cs h l v e = h l v (used_within E vs rs l v e)

  -- the operands have the same values on both sides
  pub same_operands : (vs rs : List ℕ) (E : ℕ × ℕ → Bool) (f : ℕ → V) (cs : List V) → length vs ≡ length rs → Agree (used vs rs E) f cs → map (read K cs) rs ≡ map f vs
  same_operands [] [] E f cs n h = refl
  same_operands [] (r ∷ rs) E f cs n h = let q : ◌≡◌ {A = ℕ} 0 1 = cc in absurd (omega arith)
  same_operands (a ∷ vs) [] E f cs n h = let q : ◌≡◌ {A = ℕ} 0 1 = cc in absurd (omega arith)
  same_operands (a ∷ vs) (r ∷ rs) E f cs n h =
      ap₂ {C = List V} (λ x xs. x ∷ xs) (sym (h r a (used_here E a r vs rs))) (same_operands vs rs E f cs (omega arith) (λ l v e. h l v (used_more E a r vs rs l v e)))

  -- nothing set
  pub agree_none : (E : ℕ × ℕ → Bool) (f : ℕ → V) (cs : List V) → Agree (dropped None None E) f cs → Agree E f cs
  agree_none E f cs h l v e = h l v (dropped-none E l v e)

  -- the same value set at temporary d and location t
  pub agree_set : (d t : ℕ) (E : ℕ × ℕ → Bool) (x : V) (f : ℕ → V) (cs : List V) → t < length cs → ((l : ℕ) → E (l, d) ≡ true → l ≡ t) → ((v : ℕ) → E (t, v) ≡ true → v ≡ d) → Agree (dropped (Some d) (Some t) E) f cs → Agree E (assign (Some d) x f) (set cs t x)
  agree_set d t E x f cs within stale over h l v e = ⊎_elim same differs (cases_eq v d)
    where
      z : V
      z = K.constant 0

      same : v ≡ d → cond (eqb v d) x (f v) ≡ get_or (set cs t x) l z
      same p =
          let q : l ≡ t = stale l (ap (λ i. E (l, i)) (sym p) ∙ e) in
          rw (eq-eqb v d p) (sym (get_or-set_same cs t x z within) ∙ ap (λ i. get_or (set cs t x) i z) (sym q))

      differs : (v ≡ d → ⊥) → cond (eqb v d) x (f v) ≡ get_or (set cs t x) l z
      differs p =
          let q : l ≡ t → ⊥ = λ k. p (over v (ap (λ i. E (i, v)) (sym k) ∙ e)) in
          rw (ne_eqb v d p) (h l v (dropped_other E d t l v p q e) ∙ sym (get_or-set_other cs t l x z q))

  -- a result that is left unset
  pub agree_unset : (d : ℕ) (E : ℕ × ℕ → Bool) (x : V) (f : ℕ → V) (cs : List V) → ((l : ℕ) → E (l, d) ≡ true → ⊥) → Agree (dropped (Some d) None E) f cs → Agree E (assign (Some d) x f) cs
  agree_unset d E x f cs unmade h l v e = ⊎_elim same differs (cases_eq v d)
    where
      same : v ≡ d → cond (eqb v d) x (f v) ≡ read K cs l
      same p = absurd (unmade l (ap (λ i. E (l, i)) (sym p) ∙ e))

      differs : (v ≡ d → ⊥) → cond (eqb v d) x (f v) ≡ read K cs l
      differs p = rw (ne_eqb v d p) (h l v (dropped-unset E d l v p e))

  -- a copy that moves nothing
  pub agree_copy : (d a : ℕ) (E : ℕ × ℕ → Bool) (f : ℕ → V) (cs : List V) → Agree (renamed d a E) f cs → Agree E (assign (Some d) (f a) f) cs
  agree_copy d a E f cs h l v e = ⊎_elim same differs (cases_eq v d)
    where
      same : v ≡ d → cond (eqb v d) (f a) (f v) ≡ read K cs l
      same p = rw (eq-eqb v d p) (h l a (renamed_same E d a l (ap (λ i. E (l, i)) (sym p) ∙ e)))

      differs : (v ≡ d → ⊥) → cond (eqb v d) (f a) (f v) ≡ read K cs l
      differs p = rw (ne_eqb v d p) (h l v (renamed_other E d a l v p e))
