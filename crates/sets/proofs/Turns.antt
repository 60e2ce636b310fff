-- A turn over the nodes, from the last to the first, over words that hold a family of sets.
use Rattle.std.proofs.Common.{◌≡◌, ℕ, zero, suc, ◌+◌, ◌-◌, ◌^◌, ◌<◌, ◌≤◌, Bool, true, false, ◌⊎◌, List, [], ◌∷◌, length, get_or, set, replicate, sym, refl, ap, ap₂, ◌∙◌, inl, inr, arith}
use Rattle.std.proofs.lemmas.List.Sums.{sum_by-cons, sum_by-set}
use Rattle.std.proofs.lemmas.Bool.{cases_eq, both_ways}
use Rattle.sets.specs.Least.{Growing, room}
use Rattle.sets.proofs.Least.{Monotone, Updated, updated}

-- a word that grows leaves less room
pub room_falls : (words : List ℕ) (m w : ℕ) → m < length words → get_or words m 0 < 2 ^ 64 → get_or words m 0 < w → room (set words m w) < room words
room_falls words m w l f g =
    let e = sum_by-set (λ (x : ℕ). 2 ^ 64 - x) words m w 0 l in
    omega arith

opened : (x : ℕ) (xs : List ℕ) → room (x ∷ xs) ≡ 2 ^ 64 - x + room xs
opened x xs = sum_by-cons (λ (w : ℕ). 2 ^ 64 - w) x xs

-- words that grow one by one leave no more room
room_at_most : (xs ys : List ℕ) → length ys ≡ length xs → ((l : ℕ) → l < length xs → get_or xs l 0 ≤ get_or ys l 0) → room ys ≤ room xs
room_at_most [] [] n le = omega arith
room_at_most [] (y ∷ ys) n le = absurd (omega (arith, n))
room_at_most (x ∷ xs) [] n le = absurd (omega (arith, n))
room_at_most (x ∷ xs) (y ∷ ys) n le =
    let rest : room ys ≤ room xs = room_at_most xs ys (omega (arith, n)) (λ l h. le (suc l) (omega (arith, h))) in
    let here : x ≤ y = le 0 (omega arith) in
    omega (arith, rest, here, opened x xs, opened y ys)

heads : (x y : ℕ) (xs ys : List ℕ) → x ≤ y → y < 2 ^ 64 → (x ≡ y) ⊎ (x ≡ y → ⊥) → room ys ≤ room xs → (x ≡ y → room ys < room xs) → room (y ∷ ys) < room (x ∷ xs)
heads x y xs ys le top (inl e) most less =
    let rest : room ys < room xs = less e in
    omega (arith, rest, e, opened x xs, opened y ys)
heads x y xs ys le top (inr d) most less =
    let more : x < y = omega (arith, le, d) in
    omega (arith, most, more, top, opened x xs, opened y ys)

-- and less, unless all stay
pub room_less : (xs ys : List ℕ) → length ys ≡ length xs → ((l : ℕ) → l < length xs → get_or xs l 0 ≤ get_or ys l 0) → ((l : ℕ) → get_or ys l 0 < 2 ^ 64) → (xs ≡ ys → ⊥) → room ys < room xs
room_less [] [] n le fits ne = absurd (ne refl)
room_less [] (y ∷ ys) n le fits ne = absurd (omega (arith, n))
room_less (x ∷ xs) [] n le fits ne = absurd (omega (arith, n))
room_less (x ∷ xs) (y ∷ ys) n le fits ne =
    heads x y xs ys (le 0 (omega arith)) (fits 0) (cases_eq x y) (room_at_most xs ys (omega (arith, n)) (λ l h. le (suc l) (omega (arith, h))))
    (λ e. room_less xs ys (omega (arith, n)) (λ l h. le (suc l) (omega (arith, h))) (λ l. fits (suc l)) (λ q. ne (ap₂ ◌∷◌ e q)))

-- a row of zeros holds zeros
pub zeros_at : (k n : ℕ) → get_or {A = ℕ} (replicate k 0) n 0 ≡ 0
zeros_at zero n = refl
zeros_at (suc k) zero = refl
zeros_at (suc k) (suc n) = zeros_at k n

module _ {K : Type 0} (N : ℕ) (F : (ℕ → K → Bool) → ℕ → K → Bool) (sets : List ℕ → ℕ → K → Bool) where
  -- the nodes from n on have been visited, and nothing was stored unless `changed`
  pub record Turn (first words : List ℕ) (n : ℕ) (changed : Bool) : Type 0 where
    pub growing : Growing N F (sets words)
    pub less : room words ≤ room first
    pub again : changed ≡ true → room words < room first
    pub done : changed ≡ false → (k : ℕ) → n ≤ k → k < N → (x : K) → sets words k x ≡ F (sets words) k x

  pub turn_start : (words : List ℕ) → Growing N F (sets words) → Turn words words N false
  turn_start words g = record {
    growing = g;
    less = omega arith;
    again = λ e. absurd (both_ways false refl e);
    done = λ _ k l h. absurd (omega arith);
  }

  -- the node m solves its equation already
  pub turn_same : (first words : List ℕ) (n m : ℕ) (changed : Bool) → n ≤ m + 1 → Turn first words n changed
      → ((x : K) → sets words m x ≡ F (sets words) m x) → Turn first words m changed
  turn_same first words n m changed near t is = record {
    growing = t.growing;
    less = t.less;
    again = t.again;
    done = λ c k l h x. go c k h x l (cases_eq k m);
  }
    where
      go : changed ≡ false → (k : ℕ) → k < N → (x : K) → m ≤ k → (k ≡ m) ⊎ (k ≡ m → ⊥) → sets words k x ≡ F (sets words) k x
      go c k h x l (inl q) = ap (λ (j : ℕ). sets words j x) q ∙ is x ∙ ap (λ (j : ℕ). F (sets words) j x) (sym q)
      go c k h x l (inr q) = t.done c k (omega arith) h x

  -- the node m is stored anew
  pub turn_set : Monotone N F → (first words words' : List ℕ) (n m : ℕ) (changed : Bool) → Turn first words n changed
      → Updated N F (sets words) (sets words') m → room words' < room words → Turn first words' m true
  turn_set mono first words words' n m changed t u fall = record {
    growing = updated N F mono m t.growing u;
    less = omega (arith, fall, t.less);
    again = λ _. omega (arith, fall, t.less);
    done = λ e. absurd (both_ways true e refl);
  }
