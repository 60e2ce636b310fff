-- Reading and writing a field undo each other.
use Rattle.std.proofs.Common.{◌≡◌, ℕ, ◌^◌, ◌<◌, ◌≤◌, Bool, true, false, cond, ◌&&◌, eqb, ltb, leb, List, [], ◌∷◌, map, length, drop, Some, None, Ok, Err, IsSome, decimal, Option, sym, refl, ap, ◌∙◌, arith}
use Rattle.std.proofs.lemmas.Bool.{cond-true, cond-false, eq-eqb, ne_eqb, eqb-true, ltb-true, lt-ltb, and_parts}
use Rattle.std.proofs.lemmas.Bool.Decides.{nat_tests}
use Rattle.std.proofs.lemmas.List.{length-map}
use Rattle.std.specs.Str.{all_ascii_digits}
use Rattle.std.proofs.lemmas.Slice.Eq.{bytes_eq-Decides}
use Rattle.std.specs.Char.{is_ascii_digit}
use Rattle.std.specs.Option.{option_map, ok_or, is_some}
use Rattle.text.specs.declared.fields.Location.{Location}
use Rattle.text.specs.declared.fields.Location.TheVariants.{Register, Slot}
use Rattle.text.specs.Number.{number_of}
use Rattle.text.specs.Words.{named}
use Rattle.text.specs.declared.fields.Fault.TheVariants as fault
use Rattle.text.specs.Fields.{Shape, word, number, location, shape_of, location_of, or_number, or_location, number_between, number_below, word_in, says, after_title, first_word, by_word, by_first}
use Rattle.text.proofs.Numbers.{number_bad}
use Rattle.text.proofs.NumberLaws.{number_decimal, decimal_number, digits_of_decimal}
use Rattle.text.proofs.Naming.{named_is}
use Rattle.text.proofs.TextLaws.{Lacks}

-- a way of reading a field and a way of writing it undo each other, at the values in range
pub record Inverse {A : Type 0} (read : Shape → Option A) (write : A → List ℕ) (InRange : A → Type 0) : Type 0 where
  pub reads : (a : A) → InRange a → read (shape_of (write a)) ≡ Some a
  pub is : (f : List ℕ) (a : A) → read (shape_of f) ≡ Some a → (f ≡ write a) × InRange a
  pub lacks : (b : ℕ) → b < 48 → (a : A) → InRange a → Lacks b (write a)

-- how a location is named
abbrev pub location_name : Location → List ℕ
location_name (Register n) = 114 ∷ decimal n
location_name (Slot n) = 115 ∷ decimal n

-- written, then read

pub shape_number : (n : ℕ) → n < 10 ^ 10 → shape_of (decimal n) ≡ number n
shape_number n h = ap (or_number (decimal n)) (number_decimal n h)

pub shape_register : (n : ℕ) → n < 10 ^ 10 → shape_of (114 ∷ decimal n) ≡ location (Register n)
shape_register n h = ap (or_number (114 ∷ decimal n)) (sym (number_bad (114 ∷ decimal n) refl)) ∙ ap (λ o. or_location (114 ∷ decimal n) (option_map Register o)) (number_decimal n h)

pub shape_slot : (n : ℕ) → n < 10 ^ 10 → shape_of (115 ∷ decimal n) ≡ location (Slot n)
shape_slot n h = ap (or_number (115 ∷ decimal n)) (sym (number_bad (115 ∷ decimal n) refl)) ∙ ap (λ o. or_location (115 ∷ decimal n) (option_map Slot o)) (number_decimal n h)

-- digits are no separators
digits_lack : (b : ℕ) → b < 48 → (ds : List ℕ) → all_ascii_digits ds ≡ true → Lacks b ds
digits_lack b low [] h = tt
digits_lack b low (c ∷ cs) h =
    let p = and_parts (is_ascii_digit c) (all_ascii_digits cs) h in
    let big : 48 ≤ c = grind (arith, nat_tests, p.0) in
    ((λ e. omega arith), digits_lack b low cs p.1)

pub decimal_lacks : (b : ℕ) → b < 48 → (n : ℕ) → n < 10 ^ 10 → Lacks b (decimal n)
decimal_lacks b low n h = digits_lack b low (decimal n) (digits_of_decimal n (omega arith))

-- what a field that says a word, a number or a location is
pub shape_is_word : (f bs : List ℕ) → shape_of f ≡ word bs → f ≡ bs
shape_is_word f bs e = go (number_of f) e
  where
    none : (p : Option Location) → or_location f p ≡ word bs → f ≡ bs
    none None k = cc
    none (Some l) k = let z : ◌≡◌ {A = ℕ} 0 1 = cc in absurd (omega arith)

    go : (o : Option ℕ) → or_number f o ≡ word bs → f ≡ bs
    go None k = none (location_of f) k
    go (Some m) k = let z : ◌≡◌ {A = ℕ} 0 1 = cc in absurd (omega arith)

pub shape_is_number : (f : List ℕ) (n : ℕ) → shape_of f ≡ number n → f ≡ decimal n
shape_is_number f n e = go (number_of f) refl e
  where
    none : (p : Option Location) → or_location f p ≡ number n → f ≡ decimal n
    none None k = let z : ◌≡◌ {A = ℕ} 0 1 = cc in absurd (omega arith)
    none (Some l) k = let z : ◌≡◌ {A = ℕ} 0 1 = cc in absurd (omega arith)

    go : (o : Option ℕ) → number_of f ≡ o → or_number f o ≡ number n → f ≡ decimal n
    go None q k = none (location_of f) k
    go (Some m) q k = let same : m ≡ n = cc in (decimal_number f m q).0 ∙ ap decimal same

pub mapped_some : {A B : Type 0} (f : A → B) (o : Option A) (b : B) → option_map f o ≡ Some b → (a : A) × (o ≡ Some a) × (f a ≡ b)
mapped_some f None b e = grind arith
mapped_some f (Some a) b e = let p : f a ≡ b = cc in (a, refl, p)

location_is : (f : List ℕ) (l : Location) → location_of f ≡ Some l → f ≡ location_name l
location_is [] l e = grind arith
location_is (c ∷ cs) l e = letter (eqb c 114) refl (eqb c 115) refl
  where
    number_after : (f : ℕ → Location) → option_map f (number_of cs) ≡ Some l → (n : ℕ) × (cs ≡ decimal n) × (f n ≡ l)
    number_after f k = let p = mapped_some f (number_of cs) l k in (p.0, (decimal_number cs p.0 p.1).0, p.2)

    letter : (t : Bool) → eqb c 114 ≡ t → (u : Bool) → eqb c 115 ≡ u → (c ∷ cs) ≡ location_name l
    letter true t u v =
        let p = number_after Register (sym (cond-true _ _ _ t) ∙ e) in
        (λ i. eqb-true c 114 t i ∷ p.1 i) ∙ ap location_name p.2
    letter false t true v =
        let p = number_after Slot (sym (cond-true _ _ _ v) ∙ sym (cond-false _ _ _ t) ∙ e) in
        (λ i. eqb-true c 115 v i ∷ p.1 i) ∙ ap location_name p.2
    letter false t false v =
        let z : ◌≡◌ {A = Option Location} None (Some l) = sym (cond-false _ _ _ v) ∙ sym (cond-false _ _ _ t) ∙ e in grind arith

pub shape_is_location : (f : List ℕ) (l : Location) → shape_of f ≡ location l → f ≡ location_name l
shape_is_location f l e = go (number_of f) e
  where
    some : (p : Option Location) → location_of f ≡ p → or_location f p ≡ location l → f ≡ location_name l
    some None q k = let z : ◌≡◌ {A = ℕ} 0 1 = cc in absurd (omega arith)
    some (Some m) q k = let same : m ≡ l = cc in location_is f m q ∙ ap location_name same

    go : (o : Option ℕ) → or_number f o ≡ location l → f ≡ location_name l
    go None k = some (location_of f) refl k
    go (Some m) k = let z : ◌≡◌ {A = ℕ} 0 1 = cc in absurd (omega arith)

-- the numbers below a bound
pub below_inverse : (bound : ℕ) → bound ≤ 10 ^ 10 → Inverse (number_below bound) decimal (λ n. n < bound)
below_inverse bound few = record {
  reads = λ n h. ap (number_below bound) (shape_number n (omega arith)) ∙ cond-true _ _ _ (lt-ltb n bound h);
  is = λ f n e. is f n (shape_of f) refl e;
  lacks = λ b low n h. decimal_lacks b low n (omega arith);
}
  where
    test : (m n : ℕ) (t : Bool) → ltb m bound ≡ t → cond t (Some m) None ≡ Some n → (m ≡ n) × (n < bound)
    test m n true t k = let p : m ≡ n = cc in (p, omega (arith, ltb-true m bound t))
    test m n false t k = grind arith

    is : (f : List ℕ) (n : ℕ) (h : Shape) → shape_of f ≡ h → number_below bound h ≡ Some n → (f ≡ decimal n) × (n < bound)
    is f n (word bs) q k = grind arith
    is f n (location l) q k = grind arith
    is f n (number m) q k = let p = test m n _ refl k in (shape_is_number f m q ∙ ap decimal p.0, p.1)

-- the numbers between two bounds
pub between_inverse : (low high : ℕ) → high < 10 ^ 10 → Inverse (number_between low high) decimal (λ n. (low ≤ n) × (n ≤ high))
between_inverse low high few = record {
  reads = λ n h. ap (number_between low high) (shape_number n (omega arith)) ∙ (let t : (leb low n && leb n high) ≡ true = grind (arith, nat_tests) in cond-true _ _ _ t);
  is = λ f n e. is f n (shape_of f) refl e;
  lacks = λ b under n h. decimal_lacks b under n (omega arith);
}
  where
    test : (m n : ℕ) (t : Bool) → (leb low m && leb m high) ≡ t → cond t (Some m) None ≡ Some n → (m ≡ n) × ((low ≤ n) × (n ≤ high))
    test m n true t k = let p : m ≡ n = cc in (p, (grind (arith, nat_tests), grind (arith, nat_tests)))
    test m n false t k = grind arith

    is : (f : List ℕ) (n : ℕ) (h : Shape) → shape_of f ≡ h → number_between low high h ≡ Some n → (f ≡ decimal n) × ((low ≤ n) × (n ≤ high))
    is f n (word bs) q k = grind arith
    is f n (location l) q k = grind arith
    is f n (number m) q k = let p = test m n _ refl k in (shape_is_number f m q ∙ ap decimal p.0, p.1)

-- words that are not taken for anything else, and are found among their own
pub word_inverse : {W : Type 0} (spelling : W → List ℕ) (words : List W) → ((w : W) → shape_of (spelling w) ≡ word (spelling w)) → ((w : W) → named spelling words (spelling w) ≡ Some w)
    → ((b : ℕ) → b < 48 → (w : W) → Lacks b (spelling w)) → Inverse (word_in spelling words) spelling (λ _. Unit {0})
word_inverse {W} spelling words plain found lack = record {
  reads = λ w _. ap (word_in spelling words) (plain w) ∙ found w;
  is = λ f w e. (is f w (shape_of f) refl e, tt);
  lacks = λ b low w _. lack b low w;
}
  where
    is : (f : List ℕ) (w : W) (h : Shape) → shape_of f ≡ h → word_in spelling words h ≡ Some w → f ≡ spelling w
    is f w (word bs) q k = shape_is_word f bs q ∙ named_is spelling words bs w k
    is f w (number n) q k = grind arith
    is f w (location l) q k = grind arith

-- a field that says a word is that word
says_is : (w f : List ℕ) → says w (shape_of f) ≡ true → f ≡ w
says_is w f e = is (shape_of f) refl e
  where
    is : (h : Shape) → shape_of f ≡ h → says w h ≡ true → f ≡ w
    is (word bs) q k = shape_is_word f bs q ∙ (bytes_eq-Decides bs w).0 k
    is (number n) q k = grind arith
    is (location l) q k = grind arith

-- a line with a title: the title, and three fields
pub after_title_is : (w : List ℕ) (fs : List (List ℕ)) (r : Shape × Shape × Shape) → after_title w (map shape_of fs) ≡ Some r → (a : List ℕ) × (b : List ℕ) × (c : List ℕ) × (fs ≡ w ∷ a ∷ b ∷ c ∷ []) × (r ≡ (shape_of a, shape_of b, shape_of c))
after_title_is w [] r e = grind arith
after_title_is w (x ∷ []) r e = grind arith
after_title_is w (x ∷ a ∷ []) r e = grind arith
after_title_is w (x ∷ a ∷ b ∷ []) r e = grind arith
after_title_is w (x ∷ a ∷ b ∷ c ∷ []) r e = go (says w (shape_of x)) refl e
  where
    go : (t : Bool) → says w (shape_of x) ≡ t → cond t (Some (shape_of a, shape_of b, shape_of c)) None ≡ Some r → (a' : List ℕ) × (b' : List ℕ) × (c' : List ℕ) × ((x ∷ a ∷ b ∷ c ∷ []) ≡ w ∷ a' ∷ b' ∷ c' ∷ []) × (r ≡ (shape_of a', shape_of b', shape_of c'))
    go true t k = let p : (shape_of a, shape_of b, shape_of c) ≡ r = cc in (a, b, c, (λ i. says_is w x t i ∷ a ∷ b ∷ c ∷ []), sym p)
    go false t k = grind arith
after_title_is w (x ∷ a ∷ b ∷ c ∷ d ∷ fs) r e =
    let many : eqb (length (map shape_of (x ∷ a ∷ b ∷ c ∷ d ∷ fs))) 4 ≡ false = ne_eqb (length (map shape_of (x ∷ a ∷ b ∷ c ∷ d ∷ fs))) 4 (omega arith) in
    let bad : (eqb (length (map shape_of (x ∷ a ∷ b ∷ c ∷ d ∷ fs))) 4 && says w (shape_of x)) ≡ false = ap (λ t. t && says w (shape_of x)) many in
    let q : ◌≡◌ {A = Option (Shape × Shape × Shape)} None (Some r) = sym (cond-false _ _ _ bad) ∙ e in grind arith

-- a line that begins with a word
module _ {W A : Type 0} (spelling : W → List ℕ) (words : List W) (arity : W → ℕ) (operands : W → List Shape → Option A) where
  -- the word is not known, or more fields follow than any word asks for
  pub first_refused : (n : ℕ) → ((w : W) → arity w < n) → (fs : List Shape) → (IsSome (first_word spelling words fs) → n < length fs) → by_first spelling words arity operands fs ≡ Err fault.Word
  first_refused n few [] many = refl
  first_refused n few (f ∷ fs) many = go (word_in spelling words f) refl
    where
      go : (o : Option W) → word_in spelling words f ≡ o → by_word spelling words arity operands (word_in spelling words f) fs ≡ Err fault.Word
      go None q = ap (λ o. by_word spelling words arity operands o fs) q
      go (Some w) q =
          let long : n < length (f ∷ fs) = many (ap is_some q) in
          ap (λ o. by_word spelling words arity operands o fs) q ∙ cond-false _ _ _ (ne_eqb (length fs) (arity w) (omega (arith, few w)))

  pub first_known : (w : W) (fs : List Shape) → first_word spelling words fs ≡ Some w → by_first spelling words arity operands fs ≡ by_word spelling words arity operands (Some w) (drop 1 fs)
  first_known w [] e = grind arith
  first_known w (f ∷ fs) e = ap (λ o. by_word spelling words arity operands o fs) e

  module _ (inverse : Inverse (word_in spelling words) spelling (λ _. Unit {0})) where
    pub first_written : (w : W) (fs : List Shape) → length fs ≡ arity w → by_first spelling words arity operands (shape_of (spelling w) ∷ fs) ≡ ok_or (operands w fs) fault.Field
    first_written w fs e = ap (λ o. by_word spelling words arity operands o fs) (inverse.reads w tt) ∙ cond-true _ _ _ (eq-eqb (length fs) (arity w) e)

    -- the word and its operands, where they are read as a
    pub record Led (fs : List (List ℕ)) (a : A) : Type 0 where
      pub leader : W
      pub rest : List (List ℕ)
      pub is : fs ≡ spelling leader ∷ rest
      pub long : length rest ≡ arity leader
      pub read : operands leader (map shape_of rest) ≡ Some a

    pub first_read : (fs : List (List ℕ)) (a : A) → by_first spelling words arity operands (map shape_of fs) ≡ Ok a → Led fs a
    first_read [] a e = grind arith
    first_read (f ∷ fs) a e = worded (word_in spelling words (shape_of f)) refl e
      where
        ok_some : (o : Option A) → ok_or o fault.Field ≡ Ok a → o ≡ Some a
        ok_some None k = grind arith
        ok_some (Some x) k = let p : x ≡ a = cc in ap Some p

        counted : (w : W) (t : Bool) → eqb (length (map shape_of fs)) (arity w) ≡ t → f ≡ spelling w → cond t (ok_or (operands w (map shape_of fs)) fault.Field) (Err fault.Word) ≡ Ok a → Led (f ∷ fs) a
        counted w true t is k = record { leader = w; rest = fs; is = λ i. is i ∷ fs; long = sym (length-map fs shape_of) ∙ eqb-true _ _ t; read = ok_some _ k }
        counted w false t is k = grind arith

        worded : (o : Option W) → word_in spelling words (shape_of f) ≡ o → by_word spelling words arity operands o (map shape_of fs) ≡ Ok a → Led (f ∷ fs) a
        worded None q k = grind arith
        worded (Some w) q k = counted w (eqb (length (map shape_of fs)) (arity w)) refl (inverse.is f w q).0 k
