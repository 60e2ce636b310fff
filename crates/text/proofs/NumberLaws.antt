-- Reading and writing a number undo each other.
use Rattle.std.proofs.Common.{◌≡◌, ℕ, ◌+◌, ◌-◌, ◌*◌, ◌^◌, ◌<◌, ◌≤◌, Bool, true, false, cond, ◌&&◌, ltb, leb, List, [], ◌∷◌, length, get_or, Some, None, decimal, Option, sym, refl, ap, ◌∙◌, ⊎_elim, arith, rules}
use Rattle.std.proofs.lemmas.Bool.{cond-true, cond-false, cases_order}
use Rattle.std.proofs.lemmas.Bool.Decides.{nat_tests}
use Rattle.std.proofs.lemmas.Str.Parse.{IsNumeralModel, numerals_by_fold, tells_all_ascii_digits, digits_value_short}
use Rattle.std.proofs.lemmas.Fmt.{digits_decimal, digits_value-decimal, decimal-digits_value, decimal_nonempty, length-decimal-le, first_decimal, decimal_digit}
use Rattle.std.specs.Str.{all_ascii_digits}
use Rattle.text.specs.Number.{read_on, plain, number_of}

abbrev value_on : ℕ → List ℕ → ℕ
value_on n [] = n
value_on n (c ∷ cs) = value_on (n * 10 + (c - 48)) cs

own : IsNumeralModel (λ ds. all_ascii_digits ds ≡ true) (value_on 0)
own = numerals_by_fold _ tells_all_ascii_digits value_on (search rules)

read_on_is : (n : ℕ) (bs : List ℕ) → read_on n bs ≡ cond (all_ascii_digits bs) (Some (value_on n bs)) None
read_on_is n [] = refl
read_on_is n (c ∷ cs) = go (read_on_is (n * 10 + (c - 48)) cs) (leb 48 c && leb c 57) refl
  where
    go : read_on (n * 10 + (c - 48)) cs ≡ cond (all_ascii_digits cs) (Some (value_on (n * 10 + (c - 48)) cs)) None → (t : Bool) → (leb 48 c && leb c 57) ≡ t → read_on n (c ∷ cs) ≡ cond (all_ascii_digits (c ∷ cs)) (Some (value_on n (c ∷ cs))) None
    go ih true e = rw e ih
    go ih false e = rw e refl

lead : (n : ℕ) → n < 2 ^ 64 → plain (decimal n) ≡ true
lead n h =
    ⊎_elim
    (λ (z : n ≡ 0). let one : length (decimal n) ≡ 1 = ap length (decimal_digit n (omega arith)) in grind (arith, nat_tests, one))
    (⊎_elim (λ (k : n < 0). absurd (omega arith)) (λ (k : 0 < n). grind (arith, nat_tests, first_decimal n k h)))
    (cases_order n 0)

pub number_decimal : (n : ℕ) → n < 10 ^ 10 → number_of (decimal n) ≡ Some n
number_decimal n h =
    let small : n < 2 ^ 64 = omega arith in
    let good : (ltb 0 (length (decimal n)) && leb (length (decimal n)) 10 && plain (decimal n)) ≡ true = grind (arith, nat_tests, decimal_nonempty n small, length-decimal-le 10 n (omega arith) h small, lead n small) in
    cond-true _ _ _ good ∙ read_on_is 0 (decimal n) ∙ cond-true _ _ _ (digits_decimal own n small) ∙ ap Some (digits_value-decimal own n small)

pub decimal_number : (bs : List ℕ) (n : ℕ) → number_of bs ≡ Some n → (bs ≡ decimal n) × (n < 10 ^ 10)
decimal_number bs n e = go (ltb 0 (length bs) && leb (length bs) 10 && plain bs) refl
  where
    P : Type 0
    P = (bs ≡ decimal n) × (n < 10 ^ 10)

    digits : (d : Bool) → all_ascii_digits bs ≡ d → (ltb 0 (length bs) && leb (length bs) 10 && plain bs) ≡ true → cond d (Some (value_on 0 bs)) None ≡ Some n → P
    digits true ds g k =
        let v : value_on 0 bs ≡ n = grind arith in
        let some : 0 < length bs = grind (arith, nat_tests) in
        let few : length bs ≤ 10 = grind (arith, nat_tests) in
        let front : get_or bs 0 0 ≡ 48 → length bs ≡ 1 = λ z. grind (arith, nat_tests) in
        let small : value_on 0 bs < 10 ^ 10 = digits_value_short own bs 10 ds few in
        (sym (decimal-digits_value own bs ds some front (omega arith)) ∙ ap decimal v, omega arith)
    digits false ds g k = grind arith

    go : (g : Bool) → (ltb 0 (length bs) && leb (length bs) 10 && plain bs) ≡ g → P
    go true g = digits (all_ascii_digits bs) refl g (sym (read_on_is 0 bs) ∙ sym (cond-true _ _ _ g) ∙ e)
    go false g = let z : ◌≡◌ {A = Option ℕ} None (Some n) = sym (cond-false _ _ _ g) ∙ e in grind arith

pub digits_of_decimal : (n : ℕ) → n < 2 ^ 64 → all_ascii_digits (decimal n) ≡ true
digits_of_decimal n h = digits_decimal own n h
