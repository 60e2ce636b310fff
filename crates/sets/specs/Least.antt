-- Least solutions of the equations X n = F X n, n below N, over families of sets.
use Rattle.std.specs.Prelude.{◌≡◌, ℕ, ◌-◌, ◌^◌, ◌<◌, Bool, true, List, sum_by}

module _ {K : Type 0} (N : ℕ) where
  -- each set of X is within that of Y
  abbrev pub Within : (ℕ → K → Bool) → (ℕ → K → Bool) → Type 0
  Within X Y = (n : ℕ) → n < N → (x : K) → X n x ≡ true → Y n x ≡ true

  module _ (F : (ℕ → K → Bool) → ℕ → K → Bool) where
    -- X satisfies every equation
    abbrev pub Solution : (ℕ → K → Bool) → Type 0
    Solution X = (n : ℕ) → n < N → (x : K) → X n x ≡ F X n x

    -- Y has all that the equations make of it, as every solution does
    abbrev pub Closed : (ℕ → K → Bool) → Type 0
    Closed Y = Within (F Y) Y

    -- the least solution: within every solution, and within every closed family
    pub record Least (X : ℕ → K → Bool) : Type 0 where
      pub solves : Solution X
      pub least : (Y : ℕ → K → Bool) → Closed Y → Within X Y

    -- on the way up: within its own image, and within every closed family
    pub record Growing (X : ℕ → K → Bool) : Type 0 where
      pub grows : Within X (F X)
      pub below : (Y : ℕ → K → Bool) → Closed Y → Within X Y

-- a bound on how often words can still grow
abbrev pub room : List ℕ → ℕ
room words = sum_by (λ w. 2 ^ 64 - w) words
