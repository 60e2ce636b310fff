-- A 64-bit word as a set of small numbers.
use Rattle.std.specs.Prelude.{◌≡◌, ℕ, zero, suc, ◌+◌, ◌/◌, ◌%◌, ◌^◌, ◌<◌, max, Bool, true, false, cond, ◌||◌, List, [], ◌∷◌, Some, None, Option, ◌==◌}

-- whether v is in the set that the word m stands for
unfoldable pub bit : ℕ → ℕ → Bool
bit m v = m / 2 ^ v % 2 == 1

-- how many numbers below n pass the test p
unfoldable pub count : ℕ → (ℕ → Bool) → ℕ
count zero p = zero
count (suc n) p = cond (p zero) 1 0 + count n (λ v. p (suc v))

-- t is the lowest number that passes the test p
pub record First (p : ℕ → Bool) (t : ℕ) : Type 0 where
  pub here : p t ≡ true
  pub none : (v : ℕ) → v < t → p v ≡ false

-- the greatest of f's values below n, or 0
unfoldable pub greatest : (ℕ → ℕ) → ℕ → ℕ
greatest f zero = zero
greatest f (suc n) = max (greatest f n) (f n)

-- some element of the list passes the test p
abbrev pub any : {A : Type 0} → (A → Bool) → List A → Bool
any p [] = false
any p (x ∷ xs) = p x || any p xs

-- x is the number that is there, if one is
abbrev pub names : Option ℕ → ℕ → Bool
names None x = false
names (Some y) x = x == y

-- each number of the list is below n
abbrev pub Below : ℕ → List ℕ → Type 0
Below n [] = Unit {0}
Below n (x ∷ xs) = (x < n) × Below n xs
