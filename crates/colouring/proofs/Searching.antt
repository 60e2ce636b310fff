-- What the searches of the definitions find, and that they ask only of the numbers below n.
use Rattle.std.proofs.Common.{◌≡◌, ℕ, zero, suc, ◌+◌, ◌<◌, ◌≤◌, Bool, cond, ◌&&◌, ◌||◌, ltb, IfSome, Some, None, Option, refl, sym, ap, ap₂, subst, ◌∙◌, inl, inr, arith}
use Rattle.std.proofs.lemmas.Bool.{cases_order, both_ways}
use Rattle.sets.specs.Masks.{count}
use Rattle.sets.proofs.Masks.{first_unique}
use Rattle.colouring.specs.Colouring.{some, only, or_else, lowest_of, better, busiest_of}
use Rattle.colouring.specs.Chosen.{IsLowest, Busiest, IsBusiest}
use Rattle.colouring.specs.Searches.{lowest_is, busiest_is}

-- only the numbers below n count
pub some_same : (n : ℕ) (p q : ℕ → Bool) → ((k : ℕ) → k < n → p k ≡ q k) → some n p ≡ some n q
some_same zero p q h = refl
some_same (suc n) p q h = ap₂ ◌||◌ (some_same n p q (λ k lt. h k (omega arith))) (h n (omega arith))

pub count_below : (n : ℕ) (p q : ℕ → Bool) → ((k : ℕ) → k < n → p k ≡ q k) → count n p ≡ count n q
unfolding count
count_below zero p q h = refl
count_below (suc n) p q h = ap₂ (λ (b : Bool) (m : ℕ). cond b 1 0 + m) (h 0 (omega arith)) (count_below n (λ k. p (suc k)) (λ k. q (suc k)) (λ k lt. h (suc k) (omega arith)))

pub lowest_same : (n : ℕ) (p q : ℕ → Bool) → ((k : ℕ) → k < n → p k ≡ q k) → lowest_of n p ≡ lowest_of n q
lowest_same zero p q h = refl
lowest_same (suc n) p q h = ap₂ (λ (o : Option ℕ) (b : Bool). or_else o (only b n)) (lowest_same n p q (λ k lt. h k (omega arith))) (h n (omega arith))

pub lowest_one : (n : ℕ) (p : ℕ → Bool) (x y : Option ℕ) → IsLowest n p x → IsLowest n p y → x ≡ y
lowest_one n p None None a b = refl
lowest_one n p None (Some v) a b = absurd (both_ways _ (a v b.0) b.1.here)
lowest_one n p (Some v) None a b = absurd (both_ways _ (b v a.0) a.1.here)
lowest_one n p (Some u) (Some v) a b = ap Some (first_unique p p u v (λ k. refl) a.1 b.1)

pub lowest_found : (n : ℕ) (p : ℕ → Bool) (o : Option ℕ) → IsLowest n p o → o ≡ lowest_of n p
lowest_found n p o h = lowest_one n p o (lowest_of n p) h (lowest_is n p)

module _ (deg : ℕ → ℕ) where
  pub busiest_one : (n : ℕ) (p : ℕ → Bool) (u v : ℕ) → Busiest deg n p u → Busiest deg n p v → u ≡ v
  busiest_one n p u v a b =
      elim (cases_order u v) [ inl e ↦ e | inr z ↦ elim z [ inl lt ↦ absurd (beyond u v (b.first u lt a.here) (a.most v b.within b.here)) | inr gt ↦ absurd (beyond v u (a.first v gt b.here) (b.most u a.within a.here)) ] ]
    where
      beyond : (u v : ℕ) → deg u < deg v → deg v ≤ deg u → ⊥
      beyond u v x y = omega arith

  pub busiest_below : (n m : ℕ) (p : ℕ → Bool) (o : Option ℕ) → n ≤ m → o ≡ busiest_of deg n p → IfSome o (λ b. b < m)
  busiest_below n m p o h e = go o (subst (λ (x : Option ℕ). IsBusiest deg n p x) (sym e) (busiest_is deg n p))
    where
      go : (o : Option ℕ) → IsBusiest deg n p o → IfSome o (λ b. b < m)
      go None g = tt
      go (Some b) g = omega (arith, g.within)

better_same : (deg deg' : ℕ → ℕ) (b b' : Bool) (n : ℕ) (o : Option ℕ) → ((k : ℕ) → k < suc n → deg k ≡ deg' k) → b ≡ b' → IfSome o (λ v. v < n) → better deg b n o ≡ better deg' b' n o
better_same deg deg' b b' n None h e lt = ap (λ (z : Bool). only z n) e
better_same deg deg' b b' n (Some x) h e lt = ap₂ (λ (z w : Bool). cond (z && w) (Some n) (Some x)) e (ap₂ ltb (h x (omega arith)) (h n (omega arith)))

pub busiest_same : (deg deg' : ℕ → ℕ) (n : ℕ) (p q : ℕ → Bool) → ((k : ℕ) → k < n → deg k ≡ deg' k) → ((k : ℕ) → k < n → p k ≡ q k) → busiest_of deg n p ≡ busiest_of deg' n q
busiest_same deg deg' zero p q d h = refl
busiest_same deg deg' (suc n) p q d h =
    ap (better deg (p n) n) (busiest_same deg deg' n p q (λ k lt. d k (omega arith)) (λ k lt. h k (omega arith)))
    ∙ better_same deg deg' (p n) (q n) n (busiest_of deg' n q) d (h n (omega arith)) (busiest_below deg' n n q _ (omega arith) refl)
