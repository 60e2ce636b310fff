-- Tables of conflicts, by the bits of their words.
use Rattle.std.proofs.Common.{◌≡◌, ℕ, ◌+◌, ◌^◌, ◌<◌, ◌≤◌, Bool, true, false, ◌&&◌, ◌||◌, ltb, ◌⊎◌, List, length, replicate, sym, refl, ap, ◌∙◌, ap₂, inl, inr, add-one, arith}
use Rattle.std.proofs.lemmas.List.{get_or_past}
use Rattle.std.proofs.lemmas.Bool.{cases_lt, and_right, lt-ltb}
use Rattle.sets.specs.Masks.{bit}
use Rattle.sets.proofs.Masks.{bit-zero, bit_high}
use Rattle.sets.proofs.Turns.{zeros_at}
use Rattle.colouring.specs.Colouring.{some, rows}

-- a table of zeros has nothing
pub rows-zero : (n u v : ℕ) → rows (replicate n 0) u v ≡ false
rows-zero n u v = ap (λ (m : ℕ). bit m v) (zeros_at n u) ∙ bit-zero v

-- one column more
pub record Column (table : List ℕ) (u k : ℕ) (set' : ℕ → Bool) : Type 0 where
  pub before : (v : ℕ) → v < k → set' v ≡ rows table v u
  pub past : (v : ℕ) → k ≤ v → set' v ≡ false

pub column_all : (table : List ℕ) (u k : ℕ) (set' : ℕ → Bool) → k ≡ length table → Column table u k set' → (v : ℕ) → set' v ≡ rows table v u
column_all table u k set' e c v = elim (cases_lt v k) [
  | inl l ↦ c.before v l
  | inr l ↦ c.past v l ∙ sym (ap (λ (m : ℕ). bit m u) (get_or_past table v 0 (omega arith)) ∙ bit-zero u)
]

-- the parameters live into node 0, by masks
pub arriving_is : (P word v : ℕ) (low both : ℕ → Bool) → word < 2 ^ 64 → ((v : ℕ) → low v ≡ (ltb v P && ltb v 64)) → ((v : ℕ) → both v ≡ (low v && bit word v)) → both v ≡ (ltb v P && bit word v)
arriving_is P word v low both h l b = b v ∙ (ap (λ (x : Bool). x && bit word v) (l v) ∙ go (cases_lt v 64))
  where
    go : (v < 64) ⊎ (64 ≤ v) → ((ltb v P && ltb v 64) && bit word v) ≡ (ltb v P && bit word v)
    go (inl k) = ap (λ (x : Bool). x && bit word v) (ap (λ (y : Bool). ltb v P && y) (lt-ltb v 64 k) ∙ right (ltb v P))
      where
        right : (a : Bool) → (a && true) ≡ a
        right true = refl
        right false = refl
    go (inr k) = and_right _ _ (bit_high 64 word v h k) ∙ sym (and_right _ _ (bit_high 64 word v h k))

-- one more number that may pass
pub some_more : (n : ℕ) (p : ℕ → Bool) (a b : Bool) → a ≡ some n p → b ≡ p n → (a || b) ≡ some (n + 1) p
some_more n p a b e f = ap₂ ◌||◌ e f ∙ ap (λ (k : ℕ). some k p) (sym (add-one n))
