-- Laws of `bit`: words as sets.
use Rattle.std.proofs.Common.{◌≡◌, ℕ, zero, suc, ◌+◌, ◌-◌, ◌*◌, ◌/◌, ◌%◌, ◌^◌, ◌<◌, ◌≤◌, max, Bool, true, false, cond, not, ◌&&◌, ◌||◌, eqb, ltb, ◌≢◌, ◌⊎◌, List, [], ◌∷◌, sym, refl, ap, ◌∙◌, ap₂, inl, inr, ⊎_elim, div-one, add-one, one-add, arith, pow_pos, shr-shr}
use lib.Dec.{eqb-zero-suc, eqb-suc-zero, eqb-suc-suc}
use lib.Bits.{bit_and, bit_or, and_shr, and_mod, or_shr, or_mod}
use lib.Count.{count_trailing_zeros, ones, ones_step, under}
use Rattle.std.proofs.lemmas.Nat.{one_shl, and_mask}
use Rattle.std.proofs.lemmas.Bool.{cases_order, cases_lt, both_ways, eqb-true, lt-ltb, le-ltb, and_from, and_left, and_right, or_left, or_cases}
use Rattle.sets.specs.Masks.{bit, count, First, greatest, any, Below}

test_is : (a b : ℕ) → a ≡ b → eqb a 1 ≡ eqb b 1
test_is a b e = ap (λ (x : ℕ). eqb x 1) e

word_is : (a b v : ℕ) → a ≡ b → bit a v ≡ bit b v
word_is a b v e = ap (λ (x : ℕ). bit x v) e

-- two digits
digit_or : (x y : ℕ) → x < 2 → y < 2 → eqb (bit_or x y) 1 ≡ (eqb x 1 || eqb y 1)
digit_or zero y h k = refl
digit_or (suc zero) zero h k = refl
digit_or (suc zero) (suc zero) h k = refl
digit_or (suc zero) (suc (suc y)) h k = absurd (omega arith)
digit_or (suc (suc x)) y h k = absurd (omega arith)

digit_and : (x y : ℕ) → x < 2 → y < 2 → eqb (bit_and x y) 1 ≡ (eqb x 1 && eqb y 1)
digit_and zero y h k = refl
digit_and (suc zero) zero h k = refl
digit_and (suc zero) (suc zero) h k = refl
digit_and (suc zero) (suc (suc y)) h k = absurd (omega arith)
digit_and (suc (suc x)) y h k = absurd (omega arith)

pub bit-or : (a b v : ℕ) → bit (bit_or a b) v ≡ (bit a v || bit b v)
unfolding bit
bit-or a b v =
    ap (λ (x : ℕ). eqb (x % 2) 1) (or_shr a b v) ∙ ap (λ (x : ℕ). eqb x 1) (or_mod (a / 2 ^ v) (b / 2 ^ v) 1)
    ∙ digit_or (a / 2 ^ v % 2) (b / 2 ^ v % 2) (omega arith) (omega arith)

pub bit-and : (a b v : ℕ) → bit (bit_and a b) v ≡ (bit a v && bit b v)
unfolding bit
bit-and a b v =
    ap (λ (x : ℕ). eqb (x % 2) 1) (and_shr a b v) ∙ ap (λ (x : ℕ). eqb x 1) (and_mod (a / 2 ^ v) (b / 2 ^ v) 1)
    ∙ digit_and (a / 2 ^ v % 2) (b / 2 ^ v % 2) (omega arith) (omega arith)

-- the lowest digit, and the rest
pub bit_low : (m : ℕ) → bit m 0 ≡ eqb (m % 2) 1
unfolding bit
bit_low m = ap (λ (x : ℕ). eqb (x % 2) 1) (div-one m)

pub bit-suc : (m v : ℕ) → bit m (suc v) ≡ bit (m / 2) v
unfolding bit
bit-suc m v = ap (λ (x : ℕ). eqb (m / 2 ^ x % 2) 1) (sym (one-add v)) ∙ ap (λ (x : ℕ). eqb (x % 2) 1) (sym (shr-shr m 1 v))

pub bit-zero : (v : ℕ) → bit 0 v ≡ false
bit-zero zero = bit_low 0
bit-zero (suc v) = bit-suc 0 v ∙ bit-zero v

pub bit_pow : (k v : ℕ) → bit (2 ^ k) v ≡ eqb v k
bit_pow zero zero = bit_low 1
bit_pow zero (suc v) = bit-suc 1 v ∙ bit-zero v ∙ sym (eqb-suc-zero v)
bit_pow (suc k) zero = bit_low (2 ^ suc k) ∙ test_is (2 ^ suc k % 2) 0 (omega arith) ∙ sym (eqb-zero-suc k)
bit_pow (suc k) (suc v) = bit-suc (2 ^ suc k) v ∙ word_is (2 ^ suc k / 2) (2 ^ k) v (omega arith) ∙ bit_pow k v ∙ sym (eqb-suc-suc v k)

-- a word of k digits has none above
pub bit_high : (k m v : ℕ) → m < 2 ^ k → k ≤ v → bit m v ≡ false
bit_high zero m v h l = word_is m 0 v (omega arith) ∙ bit-zero v
bit_high (suc k) m zero h l = absurd (omega arith)
bit_high (suc k) m (suc v) h l = bit-suc m v ∙ bit_high k (m / 2) v (omega arith) (omega arith)

digit_not : (x y : ℕ) → x + y ≡ 1 → eqb x 1 ≡ not (eqb y 1)
digit_not zero zero e = absurd (omega arith)
digit_not zero (suc zero) e = refl
digit_not zero (suc (suc y)) e = absurd (omega arith)
digit_not (suc zero) zero e = refl
digit_not (suc zero) (suc y) e = absurd (omega arith)
digit_not (suc (suc x)) y e = absurd (omega arith)

-- the complement of a word of k digits
pub bit_not : (k m v : ℕ) → m < 2 ^ k → v < k → bit ((2 ^ k - 1) - m) v ≡ not (bit m v)
bit_not zero m v h l = absurd (omega arith)
bit_not (suc k) m zero h l =
    bit_low ((2 ^ suc k - 1) - m) ∙ digit_not (((2 ^ suc k - 1) - m) % 2) (m % 2) (omega arith) ∙ ap not (sym (bit_low m))
bit_not (suc k) m (suc v) h l =
    bit-suc ((2 ^ suc k - 1) - m) v ∙ word_is (((2 ^ suc k - 1) - m) / 2) ((2 ^ k - 1) - m / 2) v (omega arith)
    ∙ bit_not k (m / 2) v (omega arith) (omega arith) ∙ ap not (sym (bit-suc m v))

-- the numbers below n
pub bit_ones : (n v : ℕ) → bit (2 ^ n - 1) v ≡ ltb v n
bit_ones n v = go (cases_lt v n)
  where
    go : (v < n) ⊎ (n ≤ v) → bit (2 ^ n - 1) v ≡ ltb v n
    go (inl l) = word_is (2 ^ n - 1) ((2 ^ n - 1) - 0) v (omega arith) ∙ bit_not n 0 v (pow_pos n) l ∙ ap not (bit-zero v) ∙ sym (lt-ltb v n l)
    go (inr l) = bit_high n (2 ^ n - 1) v (omega (arith, pow_pos n)) l ∙ sym (le-ltb v n l)

-- of two bounds the lower one decides
below_both : (n k v : ℕ) → n ≤ k → ltb v n ≡ (ltb v n && ltb v k)
below_both n k v h = go (cases_lt v n)
  where
    go : (v < n) ⊎ (n ≤ v) → ltb v n ≡ (ltb v n && ltb v k)
    go (inl l) = lt-ltb v n l ∙ sym (and_from (ltb v n) (ltb v k) (lt-ltb v n l) (lt-ltb v k (omega arith)))
    go (inr l) = le-ltb v n l ∙ sym (and_left (ltb v n) (ltb v k) (le-ltb v n l))

below_all : (n k v : ℕ) → k ≤ n → ltb v k ≡ (ltb v n && ltb v k)
below_all n k v h = go (cases_lt v k)
  where
    go : (v < k) ⊎ (k ≤ v) → ltb v k ≡ (ltb v n && ltb v k)
    go (inl l) = lt-ltb v k l ∙ sym (and_from (ltb v n) (ltb v k) (lt-ltb v n (omega arith)) (lt-ltb v k l))
    go (inr l) = le-ltb v k l ∙ sym (and_right (ltb v n) (ltb v k) (le-ltb v k l))

-- the word of one number, as it is shifted up
pub bit_single : (v w : ℕ) → bit (1 * 2 ^ bit_and v 63 % 2 ^ 64) w ≡ eqb w (v % 64)
bit_single v w =
    let low : bit_and v 63 ≡ v % 64 = and_mask v 6 in
    word_is _ _ w (ap (λ (x : ℕ). 1 * 2 ^ x % 2 ^ 64) low ∙ one_shl (v % 64) 64 (omega arith)) ∙ bit_pow (v % 64) w

-- the word of the numbers below n
pub bit_below : (n v : ℕ) → n < 64 → bit (1 * 2 ^ n % 2 ^ 64 - 1) v ≡ (ltb v n && ltb v 64)
bit_below n v h = word_is _ _ v (ap (λ (x : ℕ). x - 1) (one_shl n 64 h)) ∙ bit_ones n v ∙ below_both n 64 v (omega arith)

pub bit_full : (n v : ℕ) → 64 ≤ n → bit (2 ^ 64 - 1) v ≡ (ltb v n && ltb v 64)
bit_full n v h = bit_ones 64 v ∙ below_all n 64 v h

-- what is in a and not in m, both words of k digits
pub bit-less : (k a m v : ℕ) → a < 2 ^ k → m < 2 ^ k → bit (bit_and a ((2 ^ k - 1) - m)) v ≡ (bit a v && not (bit m v))
bit-less k a m v ha hm = bit-and a ((2 ^ k - 1) - m) v ∙ go (cases_lt v k)
  where
    go : (v < k) ⊎ (k ≤ v) → (bit a v && bit ((2 ^ k - 1) - m) v) ≡ (bit a v && not (bit m v))
    go (inl l) = ap (λ (x : Bool). bit a v && x) (bit_not k m v hm l)
    go (inr l) = let e : bit a v ≡ false = bit_high k a v ha l in and_left (bit a v) _ e ∙ sym (and_left (bit a v) _ e)

digit_le : (x y : ℕ) → x < 2 → (eqb x 1 ≡ true → eqb y 1 ≡ true) → x ≤ y
digit_le zero y h f = omega arith
digit_le (suc zero) y h f = omega (arith, eqb-true y 1 (f refl))
digit_le (suc (suc x)) y h f = absurd (omega arith)

-- a smaller set is a smaller number
pub within_le : (k a b : ℕ) → a < 2 ^ k → ((v : ℕ) → bit a v ≡ true → bit b v ≡ true) → a ≤ b
within_le zero a b h f = omega arith
within_le (suc k) a b h f =
    let low : a % 2 ≤ b % 2 = digit_le (a % 2) (b % 2) (omega arith) (λ e. sym (bit_low b) ∙ f 0 (bit_low a ∙ e)) in
    let rest : a / 2 ≤ b / 2 = within_le k (a / 2) (b / 2) (omega arith) (λ v e. sym (bit-suc b v) ∙ f (suc v) (bit-suc a v ∙ e)) in
    omega arith

-- the lowest element, by the count of zeros below it
pub lowest : (k m : ℕ) → 0 < m → m < 2 ^ k → First (bit m) (count_trailing_zeros k m) × (count_trailing_zeros k m < k)
unfolding count_trailing_zeros
lowest zero m p h = absurd (omega arith)
lowest (suc k) m p h = go (m % 2) refl (λ q. lowest k (m / 2) q (omega arith))
  where
    go : (d : ℕ) → m % 2 ≡ d → (0 < m / 2 → First (bit (m / 2)) (count_trailing_zeros k (m / 2)) × (count_trailing_zeros k (m / 2) < k))
        → First (bit m) (under d (count_trailing_zeros k (m / 2))) × (under d (count_trailing_zeros k (m / 2)) < suc k)
    go zero e ih =
        let r = ih (omega arith) in
        let t = count_trailing_zeros k (m / 2) in
        let none : (v : ℕ) → v < suc t → bit m v ≡ false = λ v. elim v as (λ w. w < suc t → bit m w ≡ false) [
          | zero ↦ λ l. bit_low m ∙ test_is (m % 2) 0 e
          | suc w ↦ λ l. bit-suc m w ∙ r.0.none w (omega arith)
        ] in
        (record { here = bit-suc m t ∙ r.0.here; none = none }, omega arith)
    go (suc d) e ih =
        let o : m % 2 ≡ 1 = omega arith in
        (record { here = bit_low m ∙ test_is (m % 2) 1 o; none = λ v l. absurd (omega arith) }, omega arith)

pub lowest_word : (m : ℕ) → m ≢ 0 → m < 2 ^ 64 → (count_trailing_zeros 64 m < 64) × First (bit m) (count_trailing_zeros 64 m)
lowest_word m ne h = let t = lowest 64 m (omega arith) h in (t.1, t.0)

pub empty_word : (m v : ℕ) → m ≡ 0 → bit m v ≡ false
empty_word m v e = word_is m 0 v e ∙ bit-zero v

-- the count of elements
digit_one : (x : ℕ) → x < 2 → x ≡ cond (eqb x 1) 1 0
digit_one zero h = refl
digit_one (suc zero) h = refl
digit_one (suc (suc x)) h = absurd (omega arith)

pub ones_zero : ones 0 ≡ 0
unfolding ones
ones_zero = refl

pub count_same : (n : ℕ) (p q : ℕ → Bool) → ((v : ℕ) → p v ≡ q v) → count n p ≡ count n q
unfolding count
count_same zero p q e = refl
count_same (suc n) p q e = ap₂ (λ (b : Bool) (c : ℕ). cond b 1 0 + c) (e 0) (count_same n (λ v. p (suc v)) (λ v. q (suc v)) (λ v. e (suc v)))

pub ones_count : (k m : ℕ) → m < 2 ^ k → ones m ≡ count k (bit m)
unfolding count
ones_count zero m h = ap ones {x = m} {y = 0} (omega arith) ∙ ones_zero
ones_count (suc k) m h =
    ones_step m
    ∙ ap₂ (λ (a b : ℕ). a + b)
    (digit_one (m % 2) (omega arith) ∙ ap (λ (b : Bool). cond b 1 0) (sym (bit_low m)))
    (ones_count k (m / 2) (omega arith) ∙ count_same k (bit (m / 2)) (λ v. bit m (suc v)) (λ v. sym (bit-suc m v)))

pub greatest-zero : (f : ℕ → ℕ) → greatest f 0 ≡ 0
unfolding greatest
greatest-zero f = refl

pub greatest_more : (f : ℕ → ℕ) (n : ℕ) → greatest f (n + 1) ≡ max (greatest f n) (f n)
unfolding greatest
greatest_more f n = ap (greatest f) (add-one n)

pub greatest_same : (f g : ℕ → ℕ) (n : ℕ) → ((k : ℕ) → k < n → f k ≡ g k) → greatest f n ≡ greatest g n
unfolding greatest
greatest_same f g zero e = refl
greatest_same f g (suc n) e = ap₂ max (greatest_same f g n (λ k h. e k (omega arith))) (e n (omega arith))

-- a count stops where nothing passes
pub count_cut : (n k : ℕ) (p : ℕ → Bool) → k ≤ n → ((v : ℕ) → k ≤ v → p v ≡ false) → count n p ≡ count k p
unfolding count
count_cut zero zero p h e = refl
count_cut zero (suc k) p h e = absurd (omega arith)
count_cut (suc n) zero p h e = ap₂ (λ (b : Bool) (c : ℕ). cond b 1 0 + c) (e 0 (omega arith)) (count_cut n zero (λ v. p (suc v)) (omega arith) (λ v l. e (suc v) (omega arith)))
count_cut (suc n) (suc k) p h e = ap (λ (c : ℕ). cond (p 0) 1 0 + c) (count_cut n k (λ v. p (suc v)) (omega arith) (λ v l. e (suc v) (omega arith)))

-- a test of a list grows with the test of its elements
pub or_mono : (a b c d : Bool) → (a ≡ true → c ≡ true) → (b ≡ true → d ≡ true) → (a || b) ≡ true → (c || d) ≡ true
or_mono true b c d f g e = or_left c d (f refl)
or_mono false b true d f g e = refl
or_mono false b false d f g e = g e

pub and_mono : (a b c : Bool) → (a ≡ true → c ≡ true) → (a && b) ≡ true → (c && b) ≡ true
and_mono true b c f e = ap (λ (x : Bool). x && b) (f refl) ∙ e
and_mono false b c f e = absurd (both_ways false refl e)

pub any_mono : (n : ℕ) (p q : ℕ → Bool) (xs : List ℕ) → Below n xs → ((x : ℕ) → x < n → p x ≡ true → q x ≡ true) → any p xs ≡ true → any q xs ≡ true
any_mono n p q [] h f e = e
any_mono n p q (x ∷ xs) h f e = or_mono (p x) (any p xs) (q x) (any q xs) (f x h.0) (any_mono n p q xs h.1 f) e

-- what is in a list of numbers below n is below n
pub any_below : (n v : ℕ) (xs : List ℕ) → Below n xs → any (eqb v) xs ≡ true → v < n
any_below n v [] h e = absurd (both_ways false refl e)
any_below n v (x ∷ xs) h e =
    ⊎_elim (λ q. omega (arith, eqb-true v x q, h.0)) (any_below n v xs h.1) (or_cases (eqb v x) (any (eqb v) xs) e)

-- a test that does not ask for the element
pub any_const : {A : Type 0} (b : Bool) (xs : List A) → any (λ _. b) xs ≡ true → b ≡ true
any_const b [] e = absurd (both_ways false refl e)
any_const b (x ∷ xs) e = ⊎_elim (λ q. q) (any_const b xs) (or_cases b (any (λ _. b) xs) e)

-- the lowest number that passes a test is one number
pub first_unique : (p q : ℕ → Bool) (s t : ℕ) → ((v : ℕ) → p v ≡ q v) → First p s → First q t → s ≡ t
first_unique p q s t same a b = go (cases_order s t)
  where
    go : (s ≡ t) ⊎ ((s < t) ⊎ (t < s)) → s ≡ t
    go (inl e) = e
    go (inr (inl l)) = absurd (both_ways (q s) (b.none s l) (sym (same s) ∙ a.here))
    go (inr (inr l)) = absurd (both_ways (p t) (a.none t l) (same t ∙ b.here))
