-- Sets of equations as rows of words: what a change of words does to the set.
use Rattle.std.proofs.Common.{◌≡◌, ℕ, ◌+◌, ◌-◌, ◌*◌, ◌^◌, ◌<◌, ◌≤◌, Bool, true, false, cond, not, ◌&&◌, ◌||◌, eqb, ltb, ◌≢◌, ◌⊎◌, List, [], ◌∷◌, ◌++◌, length, length-append, get_or, take, drop, set, replicate, Some, None, Option, sym, refl, ap, ◌∙◌, subst, ap₂, inl, inr, arith, length-drop, length-set, length-take, get_or-drop, get_or-set_other, get_or-take, get_or-set_same}
use mathlib.Core.Path.{fun_ext}
use Rattle.std.specs.List.{between, slice_get}
use Rattle.std.proofs.Math.ListN.{get_or-append}
use Rattle.std.proofs.Math.Seq.{get_or-append_seam}
use Rattle.std.proofs.lemmas.Bool.{cases_eq, cases_lt, cases_Bool, both_ways, eqb-true, ne_eqb, eq-eqb, lt-ltb, le-ltb}
use Rattle.std.proofs.lemmas.List.{get_or_past, nil_from_length}
use Rattle.sets.specs.Masks.{bit, names}
use Rattle.sets.proofs.Masks.{bit-zero, within_le}
use Rattle.sets.proofs.Turns.{zeros_at}
use Rattle.allocation.specs.Ranges.{move_at}
use Rattle.allocation.specs.Allocations.{origins}
use Rattle.allocation.specs.declared.line.Move.{Move}
use Rattle.allocation.specs.declared.line.Main.{Main}
use Rattle.allocation.specs.declared.line.Main.TheVariants.{Skip, Const, Binary, Call, Branch, Return}
use Rattle.equations.specs.Equations.{back_move, back_moves, renamed, dropped, used, held, memory_sets}
use Rattle.equations.specs.Steps.{with, either, MovesReach}

-- ---- a loop that works on each word in turn: R k old new at the place k

pub record Worked (R : ℕ → ℕ → ℕ → Type 0) (first ws : List ℕ) (i : ℕ) : Type 0 where
  pub done : (k : ℕ) → k < i → R k (get_or first k 0) (get_or ws k 0)
  pub left : (k : ℕ) → i ≤ k → get_or ws k 0 ≡ get_or first k 0
  pub len : length ws ≡ length first

pub worked-none : (R : ℕ → ℕ → ℕ → Type 0) (ws : List ℕ) → Worked R ws ws 0
worked-none R ws = record { done = λ k h. absurd (omega arith); left = λ k h. refl; len = refl }

pub worked_more : (R : ℕ → ℕ → ℕ → Type 0) (first ws : List ℕ) (i w : ℕ) → Worked R first ws i → i < length ws → R i (get_or ws i 0) w → Worked R first (set ws i w) (i + 1)
worked_more R first ws i w t l is = record {
  done = λ k h. done k h (cases_eq k i);
  left = λ k h. let ne : k ≢ i = omega arith in get_or-set_other ws i k w 0 ne ∙ t.left k (omega arith);
  len = length-set ws i w ∙ t.len;
}
  where
    done : (k : ℕ) → k < i + 1 → (k ≡ i) ⊎ (k ≡ i → ⊥) → R k (get_or first k 0) (get_or (set ws i w) k 0)
    done k h (inl e) =
        subst (λ (x : ℕ). R x (get_or first x 0) (get_or (set ws i w) x 0)) (sym e)
        (subst (λ (x : ℕ). R i (get_or first i 0) x) (sym (get_or-set_same ws i w 0 l)) (subst (λ (x : ℕ). R i x w) (t.left i (omega arith)) is))
    done k h (inr ne) = subst (λ (x : ℕ). R k (get_or first k 0) x) (sym (get_or-set_other ws i k w 0 ne)) (t.done k (omega arith))

pub worked_all : (R : ℕ → ℕ → ℕ → Type 0) (first ws : List ℕ) (i : ℕ) → Worked R first ws i → length first ≤ i → ((k : ℕ) → length first ≤ k → R k 0 0) → (k : ℕ) → R k (get_or first k 0) (get_or ws k 0)
worked_all R first ws i t l z k = go (cases_lt k i)
  where
    go : (k < i) ⊎ (i ≤ k) → R k (get_or first k 0) (get_or ws k 0)
    go (inl h) = t.done k h
    go (inr h) =
        let past : get_or first k 0 ≡ 0 = get_or_past first k 0 (omega arith) in
        subst (λ (x : ℕ). R k (get_or first k 0) x) (sym (t.left k h)) (subst (λ (x : ℕ). R k x x) (sym past) (z k (omega arith)))

-- ---- one word set

pub held-set : (ws : List ℕ) (l w : ℕ) → l < length ws → (e : ℕ × ℕ) → held (set ws l w) e ≡ cond (eqb e.0 l) (bit w e.1) (held ws e)
unfolding held
held-set ws l w h e = go (cases_eq e.0 l)
  where
    go : (e.0 ≡ l) ⊎ (e.0 ≡ l → ⊥) → bit (get_or (set ws l w) e.0 0) e.1 ≡ cond (eqb e.0 l) (bit w e.1) (bit (get_or ws e.0 0) e.1)
    go (inl q) =
        ap (λ (x : ℕ). bit (get_or (set ws l w) x 0) e.1) q ∙ ap (λ (x : ℕ). bit x e.1) (get_or-set_same ws l w 0 h)
        ∙ sym (ap (λ (b : Bool). cond b (bit w e.1) (bit (get_or ws e.0 0) e.1)) (eq-eqb e.0 l q))
    go (inr q) =
        ap (λ (x : ℕ). bit x e.1) (get_or-set_other ws l e.0 w 0 q)
        ∙ sym (ap (λ (b : Bool). cond b (bit w e.1) (bit (get_or ws e.0 0) e.1)) (ne_eqb e.0 l q))

off_bool : (p x : Bool) → cond p false x ≡ (x && not p)
off_bool true true = refl
off_bool true false = refl
off_bool false true = refl
off_bool false false = refl

-- a word cleared
pub cleared_is : (ws : List ℕ) (l w : ℕ) → l < length ws → ((v : ℕ) → bit w v ≡ false) → (e : ℕ × ℕ) → held (set ws l w) e ≡ (held ws e && not (eqb e.0 l))
cleared_is ws l w h none e = held-set ws l w h e ∙ ap (λ (b : Bool). cond (eqb e.0 l) b (held ws e)) (none e.1) ∙ off_bool (eqb e.0 l) (held ws e)

with_bool : (p x y z : Bool) → (p ≡ true → y ≡ x) → cond p (y || z) x ≡ (x || (p && z))
with_bool true x y z h = ap (λ (b : Bool). b || z) (h refl)
with_bool false true y z h = refl
with_bool false false y z h = refl

held_at : (ws : List ℕ) (l : ℕ) (e : ℕ × ℕ) → eqb e.0 l ≡ true → bit (get_or ws l 0) e.1 ≡ held ws e
unfolding held
held_at ws l e q = ap (λ (x : ℕ). bit (get_or ws x 0) e.1) (sym (eqb-true e.0 l q))

-- a word that grows by a mask
pub with_is : (ws : List ℕ) (l w mask : ℕ) → l < length ws → ((v : ℕ) → bit w v ≡ (bit (get_or ws l 0) v || bit mask v)) → held (set ws l w) ≡ with l (bit mask) (held ws)
unfolding with
with_is ws l w mask h is =
    fun_ext (λ (e : ℕ × ℕ).
    held-set ws l w h e
    ∙ ap (λ (b : Bool). cond (eqb e.0 l) b (held ws e)) (is e.1)
    ∙ with_bool (eqb e.0 l) (held ws e) (bit (get_or ws l 0) e.1) (bit mask e.1) (held_at ws l e))

-- back over a move: a word cleared, and another one joined with what it was
pub move_is : (ws ws' : List ℕ) (m : Move) (w : ℕ) → m.to < length ws → ((v : ℕ) → bit w v ≡ false)
    → held ws' ≡ with m.from (bit (get_or ws m.to 0)) (held (set ws m.to w)) → held ws' ≡ back_move m (held ws)
unfolding with back_move held
move_is ws ws' m w h none e =
    e ∙ fun_ext (λ (x : ℕ × ℕ). ap (λ (b : Bool). b || (eqb x.0 m.from && bit (get_or ws m.to 0) x.1)) (cleared_is ws m.to w h none x))

pub moves_none : (E : ℕ × ℕ → Bool) → back_moves [] E ≡ E
unfolding back_moves
moves_none E = refl

-- no move is left
pub moves_left : (ms : List Move) (E : ℕ × ℕ → Bool) → length ms ≡ 0 → back_moves ms E ≡ E
moves_left ms E h = ap (λ (ns : List Move). back_moves ns E) (nil_from_length ms h) ∙ moves_none E

-- one move more, from the end
pub moves_push : (ms : List Move) (m : Move) (E : ℕ × ℕ → Bool) → back_moves (ms ++ m ∷ []) E ≡ back_moves ms (back_move m E)
unfolding back_moves
moves_push [] m E = refl
moves_push (n ∷ ms) m E = ap (back_move n) (moves_push ms m E)

-- the last of moves within reach, and those before it
pub moves_last : (ms : List Move) (m : Move) → MovesReach (ms ++ m ∷ []) → ((m.to < 64) × (m.from < 64)) × MovesReach ms
moves_last ms m s = (subst (λ (x : Move). (x.to < 64) × (x.from < 64)) (get_or-append_seam ms m [] _) (s.at (length ms) (omega (arith, length-append ms (m ∷ [])))), record { at = at })
  where
    at : (k : ℕ) → k < length ms → ((move_at ms k).to < 64) × ((move_at ms k).from < 64)
    at k h = subst (λ (x : Move). (x.to < 64) × (x.from < 64)) (get_or-append ms (m ∷ []) _ k h) (s.at k (omega (arith, length-append ms (m ∷ []))))

-- a part of moves within reach
pub part_reach : (ms : List Move) (i j : ℕ) → j ≤ length ms → MovesReach ms → MovesReach (between i j ms)
part_reach ms i j le s = record { at = at }
  where
    at : (k : ℕ) → k < length (between i j ms) → ((move_at (between i j ms) k).to < 64) × ((move_at (between i j ms) k).from < 64)
    at k h =
        let short : k < j - i = omega (arith, simp (length-take, length-drop) at h) in
        let e : move_at (between i j ms) k ≡ move_at ms (i + k) = get_or-take (j - i) (drop i ms) k _ short ∙ get_or-drop i ms k _ in
        let t = s.at (i + k) (omega arith) in
        (subst (λ (m : Move). m.to < 64) (sym e) t.0, subst (λ (m : Move). m.from < 64) (sym e) t.1)

-- ---- all words changed

pub removed_is : (first ws : List ℕ) (mask : ℕ) → ((k v : ℕ) → bit (get_or ws k 0) v ≡ (bit (get_or first k 0) v && not (bit mask v)))
    → (k v : ℕ) → held ws (k, v) ≡ (held first (k, v) && not (bit mask v))
unfolding held
removed_is first ws mask is = is

and_kept : (x : Bool) → x ≡ (x && true)
and_kept true = refl
and_kept false = refl

-- the temporaries of a mask dropped, and then a location or none
pub dropped-none : (first ws : List ℕ) (d : Option ℕ) (mask : ℕ) → ((v : ℕ) → bit mask v ≡ names d v)
    → ((k v : ℕ) → held ws (k, v) ≡ (held first (k, v) && not (bit mask v))) → held ws ≡ dropped d None (held first)
unfolding dropped
dropped-none first ws d mask is h =
    fun_ext (λ (e : ℕ × ℕ). h e.0 e.1 ∙ ap (λ (b : Bool). held first e && not b) (is e.1) ∙ and_kept (held first e && not (names d e.1)))

pub dropped-some : (first ws : List ℕ) (d : Option ℕ) (mask l w : ℕ) → l < length ws → ((v : ℕ) → bit w v ≡ false) → ((v : ℕ) → bit mask v ≡ names d v)
    → ((k v : ℕ) → held ws (k, v) ≡ (held first (k, v) && not (bit mask v))) → held (set ws l w) ≡ dropped d (Some l) (held first)
unfolding dropped
dropped-some first ws d mask l w at none is h =
    fun_ext (λ (e : ℕ × ℕ). cleared_is ws l w at none e ∙ ap (λ (b : Bool). b && not (eqb e.0 l)) (h e.0 e.1 ∙ ap (λ (b : Bool). held first e && not b) (is e.1)))

pub either_is : (a b ws : List ℕ) → ((k v : ℕ) → bit (get_or ws k 0) v ≡ (bit (get_or a k 0) v || bit (get_or b k 0) v)) → held ws ≡ either (held a) (held b)
unfolding held either
either_is a b ws is = fun_ext (λ (e : ℕ × ℕ). is e.0 e.1)

pub renamed_is : (first ws : List ℕ) (d a : ℕ) → ((k v : ℕ) → bit (get_or ws k 0) v ≡ ((bit (get_or first k 0) v && not (eqb v d)) || (eqb v a && bit (get_or first k 0) d)))
    → held ws ≡ renamed d a (held first)
unfolding held renamed
renamed_is first ws d a is = fun_ext (λ (e : ℕ × ℕ). is e.0 e.1)

-- ---- a word in which d becomes a

pub rename_none : (w d a : ℕ) → bit w d ≡ false → (v : ℕ) → bit w v ≡ ((bit w v && not (eqb v d)) || (eqb v a && bit w d))
rename_none w d a none v = go (cases_eq v d)
  where
    plain : (x q : Bool) → x ≡ ((x && true) || (q && false))
    plain true q = refl
    plain false true = refl
    plain false false = refl

    gone : (x q p : Bool) → x ≡ false → x ≡ ((x && p) || (q && false))
    gone true q p e = absurd (both_ways true e refl)
    gone false true p e = refl
    gone false false p e = refl

    go : (v ≡ d) ⊎ (v ≡ d → ⊥) → bit w v ≡ ((bit w v && not (eqb v d)) || (eqb v a && bit w d))
    go (inl q) = gone (bit w v) (eqb v a) (not (eqb v d)) (ap (bit w) q ∙ none) ∙ ap (λ (x : Bool). (bit w v && not (eqb v d)) || (eqb v a && x)) (sym none)
    go (inr q) =
        plain (bit w v) (eqb v a)
        ∙ ap₂ (λ (x y : Bool). (bit w v && not x) || (eqb v a && y)) (sym (ne_eqb v d q)) (sym none)

module _ (w rest m d : ℕ) (small : d < 64) (single : (v : ℕ) → bit m v ≡ eqb v d) (is : (v : ℕ) → bit rest v ≡ (bit w v && not (bit m v))) where
  -- nothing was removed: d is not in the word
  pub not_in : rest ≡ w → bit w d ≡ false
  not_in e = go (cases_Bool (bit w d))
    where
      off : (x : Bool) → x ≡ (x && not true) → x ≡ false
      off true h = h
      off false h = refl

      go : (bit w d ≡ true) ⊎ (bit w d ≡ false) → bit w d ≡ false
      go (inl h) = off (bit w d) (ap (λ (x : ℕ). bit x d) (sym e) ∙ is d ∙ ap (λ (b : Bool). bit w d && not b) (single d ∙ eq-eqb d d refl))
      go (inr h) = h

  -- something was removed: d is in the word
  pub is_in : w < 2 ^ 64 → rest < 2 ^ 64 → rest ≢ w → bit w d ≡ true
  is_in fits small' ne = go (cases_Bool (bit w d))
    where
      stays : (x y : Bool) → (y ≡ true → x ≡ false) → (x && not y) ≡ x
      stays true true h = absurd (both_ways true (h refl) refl)
      stays true false h = refl
      stays false true h = refl
      stays false false h = refl

      go : (bit w d ≡ true) ⊎ (bit w d ≡ false) → bit w d ≡ true
      go (inl h) = h
      go (inr h) =
          let same : (v : ℕ) → bit rest v ≡ bit w v = λ v. is v ∙ stays (bit w v) (bit m v) (λ q. ap (bit w) (eqb-true v d (sym (single v) ∙ q)) ∙ h) in
          let up = within_le 64 rest w small' (λ v e. sym (same v) ∙ e) in
          let down = within_le 64 w rest fits (λ v e. same v ∙ e) in
          absurd (ne (omega arith))

  pub rename_some : (a k r : ℕ) → ((v : ℕ) → bit k v ≡ eqb v a) → ((v : ℕ) → bit r v ≡ (bit rest v || bit k v)) → bit w d ≡ true
      → (v : ℕ) → bit r v ≡ ((bit w v && not (eqb v d)) || (eqb v a && bit w d))
  rename_some a k r one union some v =
      union v ∙ ap₂ ◌||◌ (is v ∙ ap (λ (x : Bool). bit w v && not x) (single v)) (one v ∙ and_kept (eqb v a) ∙ ap (λ (x : Bool). eqb v a && x) (sym some))

-- ---- operands

swap : (x p : Bool) → (x || p) ≡ (p || x)
swap true true = refl
swap true false = refl
swap false true = refl
swap false false = refl

none-added : (x p : Bool) → (x || (p && false)) ≡ x
none-added true p = refl
none-added false true = refl
none-added false false = refl

pub used-none : (vs : List ℕ) (E : ℕ × ℕ → Bool) → used vs [] E ≡ E
unfolding used
used-none [] E = refl
used-none (v ∷ vs) E = refl

-- one operand added
pub used_one : (vs : List ℕ) (a : ℕ) (D : ℕ → Bool) (E E₁ : ℕ × ℕ → Bool) → ((v : ℕ) → D v ≡ names (slice_get vs 0) v) → E₁ ≡ with a D E → E₁ ≡ used vs (a ∷ []) E
unfolding used with
used_one [] a D E E₁ d p = p ∙ fun_ext (λ (e : ℕ × ℕ). ap (λ (b : Bool). E e || (eqb e.0 a && b)) (d e.1) ∙ none-added (E e) (eqb e.0 a))
used_one (v ∷ vs) a D E E₁ d p =
    p ∙ fun_ext (λ (e : ℕ × ℕ). ap (λ (b : Bool). E e || (eqb e.0 a && b)) (d e.1) ∙ swap (E e) (eqb e.0 a && eqb e.1 v) ∙ ap (λ (F : ℕ × ℕ → Bool). (eqb e.0 a && eqb e.1 v) || F e) (sym (used-none vs E)))

rotated : (x p q : Bool) → ((x || p) || q) ≡ (p || (q || x))
rotated true true q = refl
rotated true false true = refl
rotated true false false = refl
rotated false true q = refl
rotated false false true = refl
rotated false false false = refl

-- two operands added, one after the other
pub used_two : (vs : List ℕ) (a b : ℕ) (D G : ℕ → Bool) (E E₁ E₂ : ℕ × ℕ → Bool) → ((v : ℕ) → D v ≡ names (slice_get vs 0) v) → ((v : ℕ) → G v ≡ names (slice_get vs 1) v)
    → E₁ ≡ with a D E → E₂ ≡ with b G E₁ → E₂ ≡ used vs (a ∷ b ∷ []) E
unfolding used with
used_two [] a b D G E E₁ E₂ d g p q =
    q ∙ fun_ext (λ (e : ℕ × ℕ). ap₂ (λ (F : ℕ × ℕ → Bool) (y : Bool). F e || (eqb e.0 b && y)) p (g e.1) ∙ none-added _ (eqb e.0 b) ∙ ap (λ (y : Bool). E e || (eqb e.0 a && y)) (d e.1) ∙ none-added (E e) (eqb e.0 a))
used_two (v ∷ []) a b D G E E₁ E₂ d g p q =
    q ∙ fun_ext (λ (e : ℕ × ℕ). ap₂ (λ (F : ℕ × ℕ → Bool) (y : Bool). F e || (eqb e.0 b && y)) p (g e.1) ∙ none-added _ (eqb e.0 b) ∙ ap (λ (y : Bool). E e || (eqb e.0 a && y)) (d e.1) ∙ swap (E e) (eqb e.0 a && eqb e.1 v))
used_two (v ∷ (w ∷ vs)) a b D G E E₁ E₂ d g p q =
    q ∙ fun_ext (λ (e : ℕ × ℕ). ap₂ (λ (F : ℕ × ℕ → Bool) (y : Bool). F e || (eqb e.0 b && y)) p (g e.1) ∙ ap (λ (y : Bool). (E e || (eqb e.0 a && y)) || (eqb e.0 b && eqb e.1 w)) (d e.1)
    ∙ rotated (E e) (eqb e.0 a && eqb e.1 v) (eqb e.0 b && eqb e.1 w) ∙ ap (λ (F : ℕ × ℕ → Bool). (eqb e.0 a && eqb e.1 v) || ((eqb e.0 b && eqb e.1 w) || F e)) (sym (used-none vs E)))

-- ---- the registers that a main line reads are two, one or none

two_origins : (m : Main) (a b : ℕ) → slice_get (origins m) 0 ≡ Some a → slice_get (origins m) 1 ≡ Some b → origins m ≡ a ∷ b ∷ []
two_origins Skip a b p q = cc
two_origins (Const l k) a b p q = cc
two_origins (Binary o l x y) a b p q = cc
two_origins (Call l h x y) a b p q = cc
two_origins (Branch o x y) a b p q = cc
two_origins (Return x) a b p q = cc

one_origin : (m : Main) (a : ℕ) → slice_get (origins m) 0 ≡ Some a → slice_get (origins m) 1 ≡ None → origins m ≡ a ∷ []
one_origin Skip a p q = cc
one_origin (Const l k) a p q = cc
one_origin (Binary o l x y) a p q = cc
one_origin (Call l h x y) a p q = cc
one_origin (Branch o x y) a p q = cc
one_origin (Return x) a p q = cc

no_origin : (m : Main) → slice_get (origins m) 0 ≡ None → origins m ≡ []
no_origin Skip p = refl
no_origin (Const l k) p = refl
no_origin (Binary o l x y) p = cc
no_origin (Call l h x y) p = cc
no_origin (Branch o x y) p = cc
no_origin (Return x) p = cc

no_second : (m : Main) (b : ℕ) → slice_get (origins m) 0 ≡ None → slice_get (origins m) 1 ≡ Some b → ⊥
no_second Skip b p q = cc
no_second (Const l k) b p q = cc
no_second (Binary o l x y) b p q = cc
no_second (Call l h x y) b p q = cc
no_second (Branch o x y) b p q = cc
no_second (Return x) b p q = cc

module _ (vs : List ℕ) (m : Main) (E : ℕ × ℕ → Bool) where
  pub operands_two : (a b : ℕ) (D G : ℕ → Bool) (E₁ E₂ : ℕ × ℕ → Bool) → slice_get (origins m) 0 ≡ Some a → slice_get (origins m) 1 ≡ Some b
      → ((v : ℕ) → D v ≡ names (slice_get vs 0) v) → ((v : ℕ) → G v ≡ names (slice_get vs 1) v) → E₁ ≡ with a D E → E₂ ≡ with b G E₁ → E₂ ≡ used vs (origins m) E
  operands_two a b D G E₁ E₂ p q d g e f = used_two vs a b D G E E₁ E₂ d g e f ∙ ap (λ (os : List ℕ). used vs os E) (sym (two_origins m a b p q))

  pub operands_one : (a : ℕ) (D : ℕ → Bool) (E₁ : ℕ × ℕ → Bool) → slice_get (origins m) 0 ≡ Some a → slice_get (origins m) 1 ≡ None
      → ((v : ℕ) → D v ≡ names (slice_get vs 0) v) → E₁ ≡ with a D E → E₁ ≡ used vs (origins m) E
  operands_one a D E₁ p q d e = used_one vs a D E E₁ d e ∙ ap (λ (os : List ℕ). used vs os E) (sym (one_origin m a p q))

  pub operands_none : slice_get (origins m) 0 ≡ None → E ≡ used vs (origins m) E
  operands_none p = sym (used-none vs E) ∙ ap (λ (os : List ℕ). used vs os E) (sym (no_origin m p))

  pub operands_second : (b : ℕ) → slice_get (origins m) 0 ≡ None → slice_get (origins m) 1 ≡ Some b → ⊥
  operands_second b p q = no_second m b p q

-- ---- a node's words, cut out of work memory

cut_is : (words : List ℕ) (n : ℕ) → held (take 64 (drop (64 * n) words)) ≡ memory_sets words n
unfolding held memory_sets
cut_is words n = fun_ext (λ (e : ℕ × ℕ). go e (cases_lt e.0 64))
  where
    go : (e : ℕ × ℕ) → (e.0 < 64) ⊎ (64 ≤ e.0) → bit (get_or (take 64 (drop (64 * n) words)) e.0 0) e.1 ≡ (ltb e.0 64 && bit (get_or words (64 * n + e.0) 0) e.1)
    go e (inl h) =
        ap (λ (x : ℕ). bit x e.1) (get_or-take 64 (drop (64 * n) words) e.0 0 h ∙ get_or-drop (64 * n) words e.0 0)
        ∙ ap (λ (b : Bool). b && bit (get_or words (64 * n + e.0) 0) e.1) (sym (lt-ltb e.0 64 h))
    go e (inr h) =
        ap (λ (x : ℕ). bit x e.1) (get_or_past (take 64 (drop (64 * n) words)) e.0 0 (simp length-take (omega arith)))
        ∙ bit-zero e.1 ∙ ap (λ (b : Bool). b && bit (get_or words (64 * n + e.0) 0) e.1) (sym (le-ltb e.0 64 h))

pub part_is : (words : List ℕ) (n : ℕ) → held (take ((64 * n + 64) - 64 * n) (drop (64 * n) words)) ≡ memory_sets words n
part_is words n = let e : (64 * n + 64) - 64 * n ≡ 64 = omega arith in ap (λ (k : ℕ). held (take k (drop (64 * n) words))) e ∙ cut_is words n

pub zeros_hold : (k : ℕ) (ws : List ℕ) → ws ≡ replicate k 0 → (e : ℕ × ℕ) → held ws e ≡ false
unfolding held
zeros_hold k ws z e = ap (λ (x : List ℕ). bit (get_or x e.0 0) e.1) z ∙ ap (λ (x : ℕ). bit x e.1) (zeros_at k e.0) ∙ bit-zero e.1
