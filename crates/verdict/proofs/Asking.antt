-- The first forbidden equation of a set, by the words of what is allowed.
use Rattle.std.proofs.Common.{◌≡◌, ℕ, ◌+◌, ◌^◌, ◌<◌, ◌≤◌, Bool, true, false, cond, not, ◌&&◌, eqb, ltb, ◌⊎◌, List, length, get_or, set, replicate, Option, sym, refl, ap, ◌∙◌, subst, ap₂, inl, inr, arith, length-set, below_more, MatchOption}
use mathlib.Core.Path.{fun_ext}
use lib.ListN.{length-replicate, get_or-replicate}
use Rattle.std.proofs.lemmas.Bool.{cases_eq, cases_lt, both_ways, ne_eqb, eq-eqb, lt-ltb, le-ltb, and_left}
use Rattle.std.proofs.lemmas.List.{get_or_past}
use Rattle.sets.specs.Masks.{bit, First, names}
use Rattle.sets.proofs.Masks.{bit-zero, bit_high}
use Rattle.source.specs.Nodes.{node_at}
use Rattle.source.specs.declared.node.Node.{Node}
use Rattle.allocation.specs.Allocations.{Line, target}
use Rattle.equations.specs.Equations.{held, after}
use Rattle.equations.specs.Questions.{elsewhere, overwritten, never_set, foreign, FirstEquation, questions_of, Passed}
use Rattle.equations.specs.Verdict.{PassedBelow}
use Rattle.verdict.specs.Answers.{Finds}
use Rattle.verdict.specs.declared.questions.Equation.{Equation}
use Rattle.equations.proofs.Rows.{held-set}

-- ---- one location after the other; w has what is in `row` at l and not in `allowed`

module _ (row allowed : List ℕ) (l : ℕ) (before : (e : ℕ × ℕ) → e.0 < l → (held row e && not (held allowed e)) ≡ false) where
  pub find_here : (w t : ℕ) → ((v : ℕ) → bit w v ≡ (bit (get_or row l 0) v && not (bit (get_or allowed l 0) v))) → First (bit w) t → FirstEquation (λ e. held row e && not (held allowed e)) (l, t)
  unfolding held
  find_here w t is f = record { here = sym (is t) ∙ f.here; before = before; lower = λ v h. sym (is v) ∙ f.none v h }

  pub find_more : (w : ℕ) → ((v : ℕ) → bit w v ≡ (bit (get_or row l 0) v && not (bit (get_or allowed l 0) v))) → ((v : ℕ) → bit w v ≡ false)
      → (e : ℕ × ℕ) → e.0 < l + 1 → (held row e && not (held allowed e)) ≡ false
  unfolding held
  find_more w is none e h = go (cases_eq e.0 l)
    where
      go : (e.0 ≡ l) ⊎ (e.0 ≡ l → ⊥) → (bit (get_or row e.0 0) e.1 && not (bit (get_or allowed e.0 0) e.1)) ≡ false
      go (inl q) = ap (λ (x : ℕ). bit (get_or row x 0) e.1 && not (bit (get_or allowed x 0) e.1)) q ∙ sym (is e.1) ∙ none e.1
      go (inr q) = before e (omega arith)

  pub find_none : length row ≤ l → (e : ℕ × ℕ) → (held row e && not (held allowed e)) ≡ false
  unfolding held
  find_none h e = go (cases_lt e.0 l)
    where
      go : (e.0 < l) ⊎ (l ≤ e.0) → (bit (get_or row e.0 0) e.1 && not (bit (get_or allowed e.0 0) e.1)) ≡ false
      go (inl q) = before e q
      go (inr q) = and_left _ _ (ap (λ (x : ℕ). bit x e.1) (get_or_past row e.0 0 (omega arith)) ∙ bit-zero e.1)

-- ---- what is allowed counts only where words of 64 bits at 64 locations reach

-- the words allow what the test p does not forbid
abbrev pub Allows : List ℕ → (ℕ × ℕ → Bool) → Type 0
Allows allowed p = (e : ℕ × ℕ) → e.0 < 64 → e.1 < 64 → held allowed e ≡ not (p e)

twice : (x : Bool) → not (not x) ≡ x
twice true = refl
twice false = refl

and_none : (x y z : Bool) → x ≡ false → (x && y) ≡ (x && z)
and_none true y z e = absurd (both_ways true e refl)
and_none false y z e = refl

forbidden : (row allowed : List ℕ) (p : ℕ × ℕ → Bool) → length row ≡ 64 → ((k : ℕ) → get_or row k 0 < 2 ^ 64) → Allows allowed p
    → (e : ℕ × ℕ) → (held row e && not (held allowed e)) ≡ (held row e && p e)
unfolding held
forbidden row allowed p long fits is e = go (cases_lt e.0 64) (cases_lt e.1 64)
  where
    go : (e.0 < 64) ⊎ (64 ≤ e.0) → (e.1 < 64) ⊎ (64 ≤ e.1) → (bit (get_or row e.0 0) e.1 && not (bit (get_or allowed e.0 0) e.1)) ≡ (bit (get_or row e.0 0) e.1 && p e)
    go (inl h) (inl k) = ap (λ (x : Bool). bit (get_or row e.0 0) e.1 && x) (ap not (is e h k) ∙ twice (p e))
    go (inl h) (inr k) = and_none _ _ _ (bit_high 64 (get_or row e.0 0) e.1 (fits e.0) k)
    go (inr h) k = and_none _ _ _ (ap (λ (x : ℕ). bit x e.1) (get_or_past row e.0 0 (omega arith)) ∙ bit-zero e.1)

pub finds_by : (row allowed : List ℕ) (p : ℕ × ℕ → Bool) (r : Option Equation) → length row ≡ 64 → ((k : ℕ) → get_or row k 0 < 2 ^ 64) → Allows allowed p
    → Finds (held row) (λ e. not (held allowed e)) r → Finds (held row) p r
finds_by row allowed p r long fits is f =
    subst (λ (q : ℕ × ℕ → Bool). MatchOption r ((e : ℕ × ℕ) → q e ≡ false) (λ e. FirstEquation q (e.location, e.temporary))) (fun_ext (forbidden row allowed p long fits is)) f

-- ---- what each question allows

-- a word at all 64 locations
all_of : (w : ℕ) (e : ℕ × ℕ) → e.0 < 64 → held (replicate 64 w) e ≡ bit w e.1
unfolding held
all_of w e h = ap (λ (x : ℕ). bit x e.1) (get_or-replicate 64 e.0 w 0 h)

-- and another one at the location m
one_of : (w x m : ℕ) → m < 64 → (e : ℕ × ℕ) → e.0 < 64 → held (set (replicate 64 w) m x) e ≡ cond (eqb e.0 m) (bit x e.1) (bit w e.1)
one_of w x m h e l =
    let reach : m < length (replicate 64 w) = rw length-replicate h in
    held-set (replicate 64 w) m x reach e ∙ ap (λ (b : Bool). cond (eqb e.0 m) (bit x e.1) b) (all_of w e l)

full_is : (w v : ℕ) → bit w v ≡ (ltb v 64 && ltb v 64) → v < 64 → bit w v ≡ true
full_is w v is h = is ∙ ap₂ ◌&&◌ (lt-ltb v 64 h) (lt-ltb v 64 h)

module _ (d : Option ℕ) (mask full : ℕ) (is : (v : ℕ) → bit mask v ≡ names d v) (all : (v : ℕ) → bit full v ≡ (ltb v 64 && ltb v 64)) where
  others_is : (rest v : ℕ) → bit rest v ≡ (bit full v && not (bit mask v)) → v < 64 → bit rest v ≡ not (names d v)
  others_is rest v h l = h ∙ ap₂ ◌&&◌ (full_is full v (all v) l) (ap not (is v))

  elsewhere_bool : (p x : Bool) → cond p true (not x) ≡ not (x && not p)
  elsewhere_bool true true = refl
  elsewhere_bool true false = refl
  elsewhere_bool false true = refl
  elsewhere_bool false false = refl

  pub elsewhere_allowed : (full' rest m : ℕ) → m < 64 → ((v : ℕ) → bit full' v ≡ (ltb v 64 && ltb v 64)) → ((v : ℕ) → bit rest v ≡ (bit full v && not (bit mask v))) → Allows (set (replicate 64 rest) m full') (elsewhere d m)
  elsewhere_allowed full' rest m h all' r e l v =
      one_of rest full' m h e l ∙ ap₂ (λ (x y : Bool). cond (eqb e.0 m) x y) (full_is full' e.1 (all' e.1) v) (others_is rest e.1 (r e.1) v)
      ∙ elsewhere_bool (eqb e.0 m) (names d e.1)

  overwritten_bool : (p x : Bool) → cond p x true ≡ not (p && not x)
  overwritten_bool true true = refl
  overwritten_bool true false = refl
  overwritten_bool false x = refl

  pub overwritten_allowed : (m : ℕ) → m < 64 → Allows (set (replicate 64 full) m mask) (overwritten d m)
  overwritten_allowed m h e l v =
      one_of full mask m h e l ∙ ap₂ (λ (x y : Bool). cond (eqb e.0 m) x y) (is e.1) (full_is full e.1 (all e.1) v) ∙ overwritten_bool (eqb e.0 m) (names d e.1)

  pub never_set_allowed : (rest : ℕ) → ((v : ℕ) → bit rest v ≡ (bit full v && not (bit mask v))) → Allows (replicate 64 rest) (never_set d)
  never_set_allowed rest r e l v = all_of rest e l ∙ others_is rest e.1 (r e.1) v

-- what is found outside of what 33, or 34, allows is what it forbids
module _ (row : List ℕ) (long : length row ≡ 64) (fits : (k : ℕ) → get_or row k 0 < 2 ^ 64) (d : Option ℕ) (mask full m : ℕ) (at : m < 64)
    (is : (v : ℕ) → bit mask v ≡ names d v) (all : (v : ℕ) → bit full v ≡ (ltb v 64 && ltb v 64)) (allowed : List ℕ) (r : Option Equation) (f : Finds (held row) (λ e. not (held allowed e)) r) where
  pub finds_elsewhere : (rest : ℕ) → ((v : ℕ) → bit rest v ≡ (bit full v && not (bit mask v))) → allowed ≡ set (replicate 64 rest) m full → Finds (held row) (elsewhere d m) r
  finds_elsewhere rest others e =
      finds_by row allowed (elsewhere d m) r long fits (subst (λ (ws : List ℕ). Allows ws (elsewhere d m)) (sym e) (elsewhere_allowed d mask full is all full rest m at all others)) f

  pub finds_overwritten : allowed ≡ set (replicate 64 full) m mask → Finds (held row) (overwritten d m) r
  finds_overwritten e =
      finds_by row allowed (overwritten d m) r long fits (subst (λ (ws : List ℕ). Allows ws (overwritten d m)) (sym e) (overwritten_allowed d mask full is all m at)) f

-- ---- the parameters, one after the other

pub record Arrived (first i : ℕ) (allowed : List ℕ) : Type 0 where
  pub long : length allowed ≡ 64
  pub is : Allows allowed (foreign first i)

pub arrived_none : (first w : ℕ) → ((v : ℕ) → bit w v ≡ false) → Arrived first 0 (replicate 64 w)
arrived_none first w none = record {
  long = length-replicate {A = ℕ} 64 w;
  is = λ e h k. all_of w e h ∙ none e.1 ∙ sym (twice _ ∙ ap (λ (x : Bool). x && eqb e.0 (first + e.1)) (le-ltb e.1 0 (omega arith)));
}

ltb_next : (a i : ℕ) → (a ≡ i → ⊥) → ltb a i ≡ ltb a (i + 1)
ltb_next a i ne = go (cases_lt a i)
  where
    go : (a < i) ⊎ (i ≤ a) → ltb a i ≡ ltb a (i + 1)
    go (inl h) = lt-ltb a i h ∙ sym (lt-ltb a (i + 1) (omega arith))
    go (inr h) = le-ltb a i h ∙ sym (le-ltb a (i + 1) (omega arith))

and_off : (x y : Bool) → y ≡ false → (x && y) ≡ false
and_off true y e = e
and_off false y e = refl

pub arrived_more : (first i w : ℕ) (allowed : List ℕ) → Arrived first i allowed → first + i < 64 → ((v : ℕ) → bit w v ≡ eqb v i) → Arrived first (i + 1) (set allowed (first + i) w)
arrived_more first i w allowed a room one-is = record { long = length-set allowed (first + i) w ∙ a.long; is = is }
  where
    spec : (e : ℕ × ℕ) → (e.0 ≡ first + i) ⊎ (e.0 ≡ first + i → ⊥) → (e.1 ≡ i) ⊎ (e.1 ≡ i → ⊥)
        → cond (eqb e.0 (first + i)) (eqb e.1 i) (ltb e.1 i && eqb e.0 (first + e.1)) ≡ (ltb e.1 (i + 1) && eqb e.0 (first + e.1))
    spec e (inl p) (inl q) =
        ap₂ (λ (x y : Bool). cond x y (ltb e.1 i && eqb e.0 (first + e.1))) (eq-eqb e.0 (first + i) p) (eq-eqb e.1 i q)
        ∙ sym (ap₂ ◌&&◌ (lt-ltb e.1 (i + 1) (omega arith)) (eq-eqb e.0 (first + e.1) (omega arith)))
    spec e (inl p) (inr q) =
        ap₂ (λ (x y : Bool). cond x y (ltb e.1 i && eqb e.0 (first + e.1))) (eq-eqb e.0 (first + i) p) (ne_eqb e.1 i q)
        ∙ sym (and_off (ltb e.1 (i + 1)) (eqb e.0 (first + e.1)) (ne_eqb e.0 (first + e.1) (λ g. q (omega arith))))
    spec e (inr p) (inl q) =
        ap (λ (x : Bool). cond x (eqb e.1 i) (ltb e.1 i && eqb e.0 (first + e.1))) (ne_eqb e.0 (first + i) p)
        ∙ and_off (ltb e.1 i) (eqb e.0 (first + e.1)) (ne_eqb e.0 (first + e.1) (λ g. p (omega arith)))
        ∙ sym (and_off (ltb e.1 (i + 1)) (eqb e.0 (first + e.1)) (ne_eqb e.0 (first + e.1) (λ g. p (omega arith))))
    spec e (inr p) (inr q) =
        ap (λ (x : Bool). cond x (eqb e.1 i) (ltb e.1 i && eqb e.0 (first + e.1))) (ne_eqb e.0 (first + i) p)
        ∙ ap (λ (x : Bool). x && eqb e.0 (first + e.1)) (ltb_next e.1 i q)

    is : Allows (set allowed (first + i) w) (foreign first (i + 1))
    is e h v =
        let reach : first + i < length allowed = omega (arith, a.long) in
        held-set allowed (first + i) w reach e ∙ ap₂ (λ (x y : Bool). cond (eqb e.0 (first + i)) x y) (one-is e.1) (a.is e h v ∙ twice _)
        ∙ spec e (cases_eq e.0 (first + i)) (cases_eq e.1 i) ∙ sym (twice _)

-- ---- one node after the other

pub passed_more : (nodes : List Node) (line : ℕ → Line) (X : ℕ → ℕ × ℕ → Bool) (n : ℕ) (row : List ℕ) (t : Option ℕ) → PassedBelow nodes line X n → t ≡ target (line n).main
    → held row ≡ after X (node_at nodes n) (line n) → Passed (questions_of n (node_at nodes n) t) (held row) → PassedBelow nodes line X (n + 1)
passed_more nodes line X n row t below is set_is here =
    below_more _ _ below (subst (λ (E : ℕ × ℕ → Bool). Passed (questions_of n (node_at nodes n) (target (line n).main)) E) set_is (subst (λ (m : Option ℕ). Passed (questions_of n (node_at nodes n) m) (held row)) is here))
