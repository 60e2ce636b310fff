-- What the questions forbid, as facts.
use Rattle.std.proofs.Common.{◌≡◌, ℕ, ◌+◌, ◌<◌, Bool, true, false, not, ◌&&◌, eqb, ltb, ◌⊎◌, Some, None, Option, sym, refl, ap, inl, inr, MatchOption}
use Rattle.std.proofs.lemmas.Bool.{and_parts, both_ways, eq-eqb, eqb-true, ltb-true}
use Rattle.source.specs.Nodes.{Action}
use Rattle.equations.specs.Questions.{Clear, elsewhere, overwritten, never_set, foreign, skippable}

-- what is in the set is not forbidden
allowed : (e q : Bool) → (e && q) ≡ false → e ≡ true → q ≡ false
allowed true q p r = p
allowed false q p r = absurd (both_ways true (sym r) refl)

not_false : (b : Bool) → not b ≡ false → b ≡ true
not_false true p = refl
not_false false p = absurd (both_ways true p refl)

-- of two tests of which the first is passed, the second is not
second_fails : (a b : Bool) → (a && not b) ≡ false → a ≡ true → b ≡ true
second_fails a b p q = not_false b (allowed a (not b) p q)

module _ (E : ℕ × ℕ → Bool) where
  pub at_target : (d t : ℕ) → Clear E (elsewhere (Some d) t) → (l : ℕ) → E (l, d) ≡ true → l ≡ t
  at_target d t clear l e = eqb-true l t (second_fails (eqb d d) (eqb l t) (allowed (E (l, d)) (eqb d d && not (eqb l t)) (clear (l, d)) e) (eq-eqb d d refl))

  pub of_result : (d t : ℕ) → Clear E (overwritten (Some d) t) → (v : ℕ) → E (t, v) ≡ true → v ≡ d
  of_result d t clear v e = eqb-true v d (second_fails (eqb t t) (eqb v d) (allowed (E (t, v)) (eqb t t && not (eqb v d)) (clear (t, v)) e) (eq-eqb t t refl))

  pub no_result : (d : ℕ) → Clear E (never_set (Some d)) → (l : ℕ) → E (l, d) ≡ true → ⊥
  no_result d clear l e = both_ways (eqb d d) (allowed (E (l, d)) (eqb d d) (clear (l, d)) e) (eq-eqb d d refl)

  pub a_parameter : (first p : ℕ) → Clear E (foreign first p) → (l v : ℕ) → E (l, v) ≡ true → (v < p) × (l ≡ first + v)
  a_parameter first p clear l v e =
      let both = and_parts (ltb v p) (eqb l (first + v)) (not_false (ltb v p && eqb l (first + v)) (allowed (E (l, v)) (not (ltb v p && eqb l (first + v))) (clear (l, v)) e)) in
      (ltb-true v p both.0, eqb-true l (first + v) both.1)

-- a main line that matches has its node's action, or is a `skip` that may stand there
pub matching : (o : Option Action) (act : Action) → MatchOption o (skippable act ≡ true) (λ x. x ≡ act) → (o ≡ Some act) ⊎ ((o ≡ None) × (skippable act ≡ true))
matching None act m = inr (refl, m)
matching (Some x) act m = inl (ap Some m)
