-- The searches of the definitions find what the relations say.
use Rattle.std.specs.Prelude.{◌≡◌, ℕ, zero, suc, ◌<◌, ◌≤◌, Bool, true, false, cond, ◌&&◌, ◌||◌, IfSome, Some, None, Option, nat_lt, refl}
use Rattle.std.proofs.Common.{sym, ap, ap₂, ◌∙◌, inl, inr, arith}
use Rattle.std.proofs.lemmas.Bool.{or_parts, or_left, or_right, and_parts, cases_eq, ltb-true, ltb-false, both_ways}
use Rattle.colouring.specs.Colouring.{some, only, or_else, lowest_of, better, busiest_of, degree, under, next}
use Rattle.colouring.specs.Chosen.{IsLowest, Busiest, IsBusiest}

pub some_false : (n : ℕ) (p : ℕ → Bool) → some n p ≡ false → (k : ℕ) → k < n → p k ≡ false
some_false zero p e k h = absurd (omega arith)
some_false (suc n) p e k h = let q = or_parts _ _ e in elim (cases_eq k n) [ inl r ↦ ap p r ∙ q.1 | inr ne ↦ some_false n p q.0 k (omega arith) ]

pub some_none : (n : ℕ) (p : ℕ → Bool) → ((k : ℕ) → k < n → p k ≡ false) → some n p ≡ false
some_none zero p h = refl
some_none (suc n) p h = ap₂ ◌||◌ (some_none n p (λ k l. h k (omega arith))) (h n (omega arith))

pub some_true : (n : ℕ) (p : ℕ → Bool) (k : ℕ) → k < n → p k ≡ true → some n p ≡ true
some_true zero p k h e = absurd (omega arith)
some_true (suc n) p k h e = elim (cases_eq k n) [ inl q ↦ or_right (some n p) _ (ap p (sym q) ∙ e) | inr ne ↦ or_left _ _ (some_true n p k (omega arith) e) ]

-- ---- the lowest that passes

pub lowest_is : (n : ℕ) (p : ℕ → Bool) → IsLowest n p (lowest_of n p)
lowest_is zero p = λ k h. absurd (omega arith)
lowest_is (suc n) p = go (lowest_of n p) (p n) refl (lowest_is n p)
  where
    go : (o : Option ℕ) (b : Bool) → p n ≡ b → IsLowest n p o → IsLowest (suc n) p (or_else o (only b n))
    go None true e h = (omega arith, record { here = e; none = h })
    go None false e h = λ k lt. elim (cases_eq k n) [ inl q ↦ ap p q ∙ e | inr ne ↦ h k (omega arith) ]
    go (Some v) b e h = (omega (arith, h.0), h.1)

-- ---- the lowest of greatest degree

module _ (deg : ℕ → ℕ) where
  pub busiest_is : (n : ℕ) (p : ℕ → Bool) → IsBusiest deg n p (busiest_of deg n p)
  busiest_is zero p = λ k h. absurd (omega arith)
  busiest_is (suc n) p = go (busiest_of deg n p) (p n) refl (busiest_is n p)
    where
      worse : (v : ℕ) (b : Bool) → p n ≡ b → (b && nat_lt (deg v) (deg n)) ≡ false → p n ≡ true → deg n ≤ deg v
      worse v true e x t = ltb-false _ _ x
      worse v false e x t = absurd (both_ways _ e t)

      pass : (v : ℕ) (b c : Bool) → p n ≡ b → (b && nat_lt (deg v) (deg n)) ≡ c → Busiest deg n p v → IsBusiest deg (suc n) p (cond c (Some n) (Some v))
      pass v b true e x h =
          let q = and_parts _ _ x in
          let up = ltb-true _ _ q.1 in
          record {
            within = omega arith;
            here = e ∙ q.0;
            most = λ k lt t. elim (cases_eq k n) [ inl r ↦ omega (arith, ap deg r) | inr ne ↦ omega (arith, h.most k (omega arith) t, up) ];
            first = λ k lt t. omega (arith, h.most k lt t, up);
          }
      pass v b false e x h = record {
        within = omega (arith, h.within);
        here = h.here;
        most = λ k lt t. elim (cases_eq k n) [ inl r ↦ omega (arith, ap deg r, worse v b e x (ap p (sym r) ∙ t)) | inr ne ↦ h.most k (omega arith) t ];
        first = h.first;
      }

      go : (o : Option ℕ) (b : Bool) → p n ≡ b → IsBusiest deg n p o → IsBusiest deg (suc n) p (better deg b n o)
      go None true e h = record {
        within = omega arith;
        here = e;
        most = λ k lt t. elim (cases_eq k n) [ inl r ↦ omega (arith, ap deg r) | inr ne ↦ absurd (both_ways _ (h k (omega arith)) t) ];
        first = λ k lt t. absurd (both_ways _ (h k lt) t);
      }
      go None false e h = λ k lt. elim (cases_eq k n) [ inl r ↦ ap p r ∙ e | inr ne ↦ h k (omega arith) ]
      go (Some v) b e h = pass v b (b && nat_lt (deg v) (deg n)) e refl h

-- what is next is left
pub next_within : (V K : ℕ) (conf : ℕ → ℕ → Bool) (left : ℕ → Bool) → IfSome (next V K conf left) (λ v. (v < V) × (left v ≡ true))
next_within V K conf left = go (lowest_of V (under V K conf left)) (busiest_of (degree V conf left) V left) (lowest_is V _) (busiest_is (degree V conf left) V left)
  where
    go : (o b : Option ℕ) → IsLowest V (under V K conf left) o → IsBusiest (degree V conf left) V left b → IfSome (or_else o b) (λ v. (v < V) × (left v ≡ true))
    go (Some v) b h g = (h.0, (and_parts _ _ h.1.here).0)
    go None (Some v) h g = (g.within, g.here)
    go None None h g = tt
