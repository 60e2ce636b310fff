-- Chaotic iteration: a family that is updated at one node after another, by a monotone function, goes up to the least solution.
use Rattle.std.proofs.Common.{◌≡◌, ℕ, ◌<◌, Bool, true, false, ◌⊎◌, sym, refl, ap, ◌∙◌, inl, inr}
use Rattle.std.proofs.lemmas.Bool.{cases_eq, both_ways}
use Rattle.sets.specs.Least.{Within, Solution, Closed, Least, Growing}

module _ {K : Type 0} (N : ℕ) (F : (ℕ → K → Bool) → ℕ → K → Bool) where
  abbrev pub Monotone : Type 0
  Monotone = (X Y : ℕ → K → Bool) → Within N X Y → Within N (F X) (F Y)

  -- X' is X with the set of the node m computed anew
  pub record Updated (X X' : ℕ → K → Bool) (m : ℕ) : Type 0 where
    pub here : (x : K) → X' m x ≡ F X m x
    pub others : (n : ℕ) → (n ≡ m → ⊥) → (x : K) → X' n x ≡ X n x

  pub start : (X : ℕ → K → Bool) → ((n : ℕ) → n < N → (x : K) → X n x ≡ false) → Growing N F X
  start X none = record { grows = λ n l x e. absurd (both_ways (X n x) (none n l x) e); below = λ Y s n l x e. absurd (both_ways (X n x) (none n l x) e) }

  pub updated_within : {X X' : ℕ → K → Bool} (m : ℕ) → Growing N F X → Updated X X' m → Within N X X'
  updated_within {X} {X'} m g u n l x e = go (cases_eq n m)
    where
      go : (n ≡ m) ⊎ (n ≡ m → ⊥) → X' n x ≡ true
      go (inl q) = ap (λ (k : ℕ). X' k x) q ∙ u.here x ∙ ap (λ (k : ℕ). F X k x) (sym q) ∙ g.grows n l x e
      go (inr q) = u.others n q x ∙ e

  pub updated : Monotone → {X X' : ℕ → K → Bool} (m : ℕ) → Growing N F X → Updated X X' m → Growing N F X'
  updated mono {X} {X'} m g u = record { grows = grows; below = below }
    where
      grows : Within N X' (F X')
      grows n l x e = go (cases_eq n m)
        where
          go : (n ≡ m) ⊎ (n ≡ m → ⊥) → F X' n x ≡ true
          go (inl q) = mono X X' (updated_within m g u) n l x (ap (λ (k : ℕ). F X k x) q ∙ sym (u.here x) ∙ ap (λ (k : ℕ). X' k x) (sym q) ∙ e)
          go (inr q) = mono X X' (updated_within m g u) n l x (g.grows n l x (sym (u.others n q x) ∙ e))

      below : (Y : ℕ → K → Bool) → Closed N F Y → Within N X' Y
      below Y s n l x e = go (cases_eq n m)
        where
          go : (n ≡ m) ⊎ (n ≡ m → ⊥) → Y n x ≡ true
          go (inl q) = s n l x (mono X Y (g.below Y s) n l x (ap (λ (k : ℕ). F X k x) q ∙ sym (u.here x) ∙ ap (λ (k : ℕ). X' k x) (sym q) ∙ e))
          go (inr q) = g.below Y s n l x (sym (u.others n q x) ∙ e)

  pub finish : {X : ℕ → K → Bool} → Growing N F X → Solution N F X → Least N F X
  finish g s = record { solves = s; least = g.below }

  -- a solution is closed, so that the least is within every solution
  pub solution_closed : (Y : ℕ → K → Bool) → Solution N F Y → Closed N F Y
  solution_closed Y s n l x e = s n l x ∙ e

  -- two least families agree
  pub least_unique : {X Y : ℕ → K → Bool} → Least N F X → Least N F Y → (n : ℕ) → n < N → (x : K) → X n x ≡ Y n x
  least_unique {X} {Y} a b n l x = both (X n x) (Y n x) (a.least Y (solution_closed Y b.solves) n l x) (b.least X (solution_closed X a.solves) n l x)
    where
      both : (p q : Bool) → (p ≡ true → q ≡ true) → (q ≡ true → p ≡ true) → p ≡ q
      both true q f g = sym (f refl)
      both false true f g = g refl
      both false false f g = refl
