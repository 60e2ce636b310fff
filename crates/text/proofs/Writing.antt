-- Bytes written to the front of a buffer, a part at a time.
use Rattle.std.proofs.Common.{◌≡◌, ℕ, ◌+◌, ◌-◌, ◌/◌, ◌%◌, ◌^◌, ◌<◌, ◌≤◌, Bool, true, false, leb, ◌⊎◌, List, [], ◌∷◌, ◌++◌, map, length, get_or, take, drop, set, Some, None, decimal, Option, sym, refl, ap, ◌∙◌, inl, inr, ⊎_elim, arith}
use Rattle.std.proofs.lemmas.Bool.{cases_lt, cond-true, cond-false, le-leb, lt-leb, leb-true, leb-false}
use borrow.Rule.Slice.PartMut.{put_mid}
use Rattle.std.proofs.lemmas.List.{append_assoc, append-nil, take_at, drop_at, drop_all, drop-drop, drop_more, set_at, length_push, length-append, length-take-le, take_rest, take-append-drop, length-drop, take_more, take_more_set, drop-set-lt, at_drop_more, length-map}
use Rattle.std.proofs.lemmas.Fmt.{decimal_digit, decimal_step}
use Rattle.text.specs.Put.{over, added, left_of}
use Rattle.text.specs.Parts.{ended}
use Rattle.text.specs.declared.put.Piece.{Piece}
use Rattle.text.specs.declared.put.Piece.TheVariants.{Word}

-- `at` bytes are written of `all`, over the front of `was`; `left` is still to write
pub record Wrote (all was out : List ℕ) (at : ℕ) (left : List ℕ) : Type 0 where
  pub so_far : take at out ++ left ≡ all
  pub count : at + length left ≡ length all
  pub rest : drop at out ≡ drop at was

pub wrote_none : (all was : List ℕ) → Wrote all was was 0 all
wrote_none all was = record { so_far = refl; count = omega arith; rest = refl }

module _ {all was out : List ℕ} {at : ℕ} where
  pub wrote_all : Wrote all was out at [] → (at ≡ length all) × (out ≡ over all was)
  wrote_all w =
      let front : take at out ≡ all = sym (append-nil _) ∙ w.so_far in
      let long : at ≡ length all = omega (arith, w.count) in
      (long, sym (take-append-drop at out) ∙ (λ i. front i ++ w.rest i) ∙ ap (λ k. all ++ drop k was) long)

  pub wrote_byte : {b : ℕ} {left : List ℕ} → Wrote all was out at (b ∷ left) → at < length out → Wrote all was (set out at b) (at + 1) left
  wrote_byte {b} {left} w h =
      let front = take_more_set out at b h in
      record {
        so_far = ap (λ l. l ++ left) front ∙ append_assoc (take at out) (b ∷ []) left ∙ w.so_far;
        count = omega (arith, w.count);
        rest = drop-set-lt (at + 1) out at b (omega arith) ∙ sym (drop-drop 1 at out) ∙ ap (drop 1) w.rest ∙ drop-drop 1 at was;
      }

  -- the part after `at` is lent, and bs is written to its front
  pub wrote_part : (bs : List ℕ) {left : List ℕ} (part : List ℕ) → Wrote all was out at (bs ++ left) → at ≤ length out → part ≡ over bs (take (length out - at) (drop at out)) → Wrote all was (put_mid at (length out - at) out part) (at + length bs) left
  wrote_part bs {left} part w h e =
      let is : put_mid at (length out - at) out part ≡ (take at out ++ bs) ++ drop (at + length bs) out =
      ap (λ p. take at out ++ (p ++ drop (length out - at) (drop at out))) (e ∙ ap (over bs) (take_rest out at))
      ∙ ap (λ p. take at out ++ (over bs (drop at out) ++ p)) (drop_all (length out - at) (drop at out) (simp length-drop (omega arith)))
      ∙ ap (λ p. take at out ++ p) (append-nil _)
      ∙ ap (λ p. take at out ++ (bs ++ p)) (drop-drop (length bs) at out)
      ∙ sym (append_assoc (take at out) bs (drop (at + length bs) out)) in
      let long : length (take at out ++ bs) ≡ at + length bs = length-append (take at out) bs ∙ ap (λ k. k + length bs) (length-take-le at out h) in
      record {
        so_far = ap (λ o. take (at + length bs) o ++ left) is ∙ ap (λ o. o ++ left) (take_at (take at out ++ bs) _ (at + length bs) long) ∙ append_assoc (take at out) bs left ∙ w.so_far;
        count = omega (arith, w.count, length-append bs left);
        rest = ap (drop (at + length bs)) is ∙ drop_at (take at out ++ bs) _ (at + length bs) long ∙ sym (drop-drop (length bs) at out) ∙ ap (drop (length bs)) w.rest ∙ drop-drop (length bs) at was;
      }

pub over_digit : (n : ℕ) (xs : List ℕ) → n < 10 → 0 < length xs → set xs 0 (48 + n) ≡ over (decimal n) xs
over_digit n [] h l = absurd (omega arith)
over_digit n (x ∷ xs) h l = ap (λ ds. over ds (x ∷ xs)) (sym (decimal_digit n h))

pub over-push : (p : List ℕ) (b : ℕ) (xs : List ℕ) → length p < length xs → set (over p xs) (length p) b ≡ over (p ++ b ∷ []) xs
over-push p b xs h =
    ap (λ r. set (p ++ r) (length p) b) (drop_more xs (length p) 0 h) ∙ set_at p _ _ b (length p) refl ∙ sym (append_assoc p (b ∷ []) (drop (length p + 1) xs)) ∙ ap (λ k. (p ++ b ∷ []) ++ drop k xs) (sym (length_push p b))

pub over_digits : (n : ℕ) (xs : List ℕ) → 10 ≤ n → n < 2 ^ 64 → length (decimal n) ≤ length xs → set (over (decimal (n / 10)) xs) (length (decimal (n / 10))) (48 + n % 10) ≡ over (decimal n) xs
over_digits n xs h s l =
    let step = decimal_step n h s in
    over-push (decimal (n / 10)) (48 + n % 10) xs (omega (arith, ap length step, length_push (decimal (n / 10)) (48 + n % 10))) ∙ ap (λ ds. over ds xs) (sym step)

pub decimal_long : (n : ℕ) → 10 ≤ n → n < 2 ^ 64 → length (decimal n) ≡ length (decimal (n / 10)) + 1
decimal_long n h s = ap length (decimal_step n h s) ∙ length_push (decimal (n / 10)) (48 + n % 10)

ended-cons : (p : List ℕ) (ps : List (List ℕ)) → 0 < length ps → ended (p ∷ ps) ≡ p ++ 9 ∷ ended ps
ended-cons p [] h = absurd (omega arith)
ended-cons p (q ∷ ps) h = refl

ended_one : (p : List ℕ) (ps : List (List ℕ)) → length ps ≡ 0 → ended (p ∷ ps) ≡ p ++ 10 ∷ ended ps
ended_one p [] h = refl
ended_one p (q ∷ ps) h = absurd (omega arith)

module _ {X : Type 0} (f : X → List ℕ) (xs : List X) (i : ℕ) (d : X) (h : i < length xs) where
  left_over : length (map f (drop (i + 1) xs)) ≡ length xs - (i + 1)
  left_over = length-map (drop (i + 1) xs) f ∙ length-drop (i + 1) xs

  pub ended_more : i + 1 < length xs → ended (map f (drop i xs)) ≡ f (get_or xs i d) ++ 9 ∷ ended (map f (drop (i + 1) xs))
  ended_more l = at_drop_more (λ ys. ended (map f ys)) xs i d h ∙ ended-cons (f (get_or xs i d)) (map f (drop (i + 1) xs)) (omega (arith, left_over))

  pub ended_last : length xs ≤ i + 1 → ended (map f (drop i xs)) ≡ f (get_or xs i d) ++ 10 ∷ ended (map f (drop (i + 1) xs))
  ended_last l = at_drop_more (λ ys. ended (map f ys)) xs i d h ∙ ended_one (f (get_or xs i d)) (map f (drop (i + 1) xs)) (omega (arith, left_over))

  -- byte 9 or 10, as the code chooses it
  pub ended_step : (b : ℕ) → ((i + 1 < length xs) × (b ≡ 9)) ⊎ ((length xs ≤ i + 1) × (b ≡ 10)) → ended (map f (drop i xs)) ≡ f (get_or xs i d) ++ b ∷ ended (map f (drop (i + 1) xs))
  ended_step b (inl p) = ended_more p.0 ∙ ap (λ c. f (get_or xs i d) ++ c ∷ ended (map f (drop (i + 1) xs))) (sym p.1)
  ended_step b (inr p) = ended_last p.0 ∙ ap (λ c. f (get_or xs i d) ++ c ∷ ended (map f (drop (i + 1) xs))) (sym p.1)

  pub ended-room : length (f (get_or xs i d)) + 1 + length (ended (map f (drop (i + 1) xs))) ≡ length (ended (map f (drop i xs)))
  ended-room =
      ⊎_elim
      (λ (l : i + 1 < length xs). omega (arith, ap length (ended_more l), length-append (f (get_or xs i d)) (9 ∷ ended (map f (drop (i + 1) xs)))))
      (λ (l : length xs ≤ i + 1). omega (arith, ap length (ended_last l), length-append (f (get_or xs i d)) (10 ∷ ended (map f (drop (i + 1) xs)))))
      (cases_lt (i + 1) (length xs))

-- what is left of the room
pub fits_some : (room n left : ℕ) → left + n ≡ room → Some left ≡ left_of room n
fits_some room n left e = let same : left ≡ room - n = omega arith in ap Some same ∙ sym (cond-true _ _ _ (le-leb n room (omega arith)))

pub fits_none : (room n : ℕ) → room < n → None ≡ left_of room n
fits_none room n h = sym (cond-false _ _ _ (lt-leb n room h))

pub fits_left : (room n left : ℕ) → Some left ≡ left_of room n → left + n ≡ room
fits_left room n left e = go (leb n room) refl
  where
    go : (t : Bool) → leb n room ≡ t → left + n ≡ room
    go true t = let q : Some left ≡ Some (room - n) = e ∙ cond-true _ _ _ t in let p : left ≡ room - n = cc in omega (arith, leb-true n room t)
    go false t = let q : ◌≡◌ {A = Option ℕ} (Some left) None = e ∙ cond-false _ _ _ t in grind arith

pub fits_not : (room n : ℕ) → None ≡ left_of room n → room < n
fits_not room n e = go (leb n room) refl
  where
    go : (t : Bool) → leb n room ≡ t → room < n
    go true t = let q : ◌≡◌ {A = Option ℕ} None (Some (room - n)) = e ∙ cond-true _ _ _ t in grind arith
    go false t = leb-false n room t

-- what a write to the front of the part after `at` leaves
pub lent_is : (out : List ℕ) (at : ℕ) (bs part : List ℕ) → at ≤ length out → part ≡ over bs (take (length out - at) (drop at out)) → put_mid at (length out - at) out part ≡ added at bs out
lent_is out at bs part h e =
    ap (λ p. take at out ++ (p ++ drop (length out - at) (drop at out))) (e ∙ ap (over bs) (take_rest out at))
    ∙ ap (λ p. take at out ++ (over bs (drop at out) ++ p)) (drop_all (length out - at) (drop at out) (simp length-drop (omega arith)))
    ∙ ap (λ p. take at out ++ p) (append-nil _)
    ∙ ap (λ p. take at out ++ (bs ++ p)) (drop-drop (length bs) at out)

-- a part, and then what follows it
pub fits_both : (room left a b : ℕ) → left + a ≡ room → left_of left b ≡ left_of room (a + b)
fits_both room left a b e = go (leb b left) refl
  where
    go : (t : Bool) → leb b left ≡ t → left_of left b ≡ left_of room (a + b)
    go true t = cond-true _ _ _ t ∙ fits_some room (a + b) (left - b) (omega (arith, leb-true b left t))
    go false t = cond-false _ _ _ t ∙ fits_none room (a + b) (omega (arith, leb-false b left t))

-- a part that does not fit, and what follows it
pub fits_neither : (room a b : ℕ) → None ≡ left_of room a → None ≡ left_of room (a + b)
fits_neither room a b e = fits_none room (a + b) (omega (arith, fits_not room a e))

pub fits_then : (room a left b : ℕ) (r : Option ℕ) → Some left ≡ left_of room a → r ≡ left_of left b → r ≡ left_of room (a + b)
fits_then room a left b r e q = q ∙ fits_both room left a b (fits_left room a left e)

-- nothing is added
pub added_none : (at : ℕ) (was : List ℕ) → was ≡ added at [] was
added_none at was = let e : at ≡ at + 0 = omega arith in sym (take-append-drop at was) ∙ ap (λ k. take at was ++ drop k was) e

-- a part is added, and then what follows it
pub added_both : (at : ℕ) (a b was : List ℕ) → at + length a ≤ length was → added (at + length a) b (added at a was) ≡ added at (a ++ b) was
added_both at a b was h =
    let front : length (take at was ++ a) ≡ at + length a = length-append (take at was) a ∙ ap (λ k. k + length a) (length-take-le at was (omega arith)) in
    let is : added at a was ≡ (take at was ++ a) ++ drop (at + length a) was = sym (append_assoc (take at was) a (drop (at + length a) was)) in
    let more : length b + (at + length a) ≡ at + length (a ++ b) = omega (arith, length-append a b) in
    ap (added (at + length a) b) is
    ∙ (λ i. take_at (take at was ++ a) (drop (at + length a) was) (at + length a) front i ++ (b ++ drop (at + length a + length b) ((take at was ++ a) ++ drop (at + length a) was)))
    ∙ ap (λ t. (take at was ++ a) ++ (b ++ t))
    (sym (drop-drop (length b) (at + length a) ((take at was ++ a) ++ drop (at + length a) was)) ∙ ap (drop (length b)) (drop_at (take at was ++ a) (drop (at + length a) was) (at + length a) front)
    ∙ drop-drop (length b) (at + length a) was ∙ ap (λ k. drop k was) (let e : at + length a + length b ≡ at + length (a ++ b) = omega (arith, length-append a b) in e))
    ∙ append_assoc (take at was) a (b ++ drop (at + length (a ++ b)) was)
    ∙ ap (λ t. take at was ++ t) (sym (append_assoc a b (drop (at + length (a ++ b)) was)))

pub added_then : (at : ℕ) (a b was mid out : List ℕ) (next : ℕ) → at + length a ≤ length was → mid ≡ added at a was → next ≡ at + length a → out ≡ added next b mid → out ≡ added at (a ++ b) was
added_then at a b was mid out next h first e second = second ∙ (λ i. added (e i) b (first i)) ∙ added_both at a b was h

-- a way of writing a list of things, one after another
pub record Joins {X : Type 0} (all : List X → List ℕ) (one : X → List ℕ) : Type 0 where
  pub none : all [] ≡ []
  pub more : (x : X) (xs : List X) → all (x ∷ xs) ≡ one x ++ all xs

module _ {X : Type 0} {all : List X → List ℕ} {one : X → List ℕ} (j : Joins all one) where
  pub joins_push : (xs : List X) (x : X) → all (xs ++ x ∷ []) ≡ all xs ++ one x
  joins_push [] x = j.more x [] ∙ ap (λ t. one x ++ t) j.none ∙ append-nil (one x) ∙ ap (λ t. t ++ one x) (sym j.none)
  joins_push (y ∷ xs) x = j.more y (xs ++ x ∷ []) ∙ ap (λ t. one y ++ t) (joins_push xs x) ∙ sym (append_assoc (one y) (all xs) (one x)) ∙ ap (λ t. t ++ one x) (sym (j.more y xs))

  joins_append : (ys zs : List X) → all (ys ++ zs) ≡ all ys ++ all zs
  joins_append [] zs = ap (λ t. t ++ all zs) (sym j.none)
  joins_append (y ∷ ys) zs = j.more y (ys ++ zs) ∙ ap (λ t. one y ++ t) (joins_append ys zs) ∙ sym (append_assoc (one y) (all ys) (all zs)) ∙ ap (λ t. t ++ all zs) (sym (j.more y ys))

  module _ (xs : List X) (i : ℕ) (d : X) (h : i < length xs) where
    pub joins_step : all (take (i + 1) xs) ≡ all (take i xs) ++ one (get_or xs i d)
    joins_step = ap all (take_more xs i d h) ∙ joins_push (take i xs) (get_or xs i d)

    pub joins_length : length (all (take (i + 1) xs)) ≡ length (all (take i xs)) + length (one (get_or xs i d))
    joins_length = ap length joins_step ∙ length-append (all (take i xs)) (one (get_or xs i d))

    pub joins_room : length (all (take i xs)) + length (one (get_or xs i d)) ≤ length (all xs)
    joins_room =
        let e : all xs ≡ all (take (i + 1) xs) ++ all (drop (i + 1) xs) = ap all (sym (take-append-drop (i + 1) xs)) ∙ joins_append (take (i + 1) xs) (drop (i + 1) xs) in
        omega (arith, ap length e, length-append (all (take (i + 1) xs)) (all (drop (i + 1) xs)), joins_length)

    pub joins_added : (at : ℕ) (was : List ℕ) → at + length (all xs) ≤ length was → added (at + length (all (take i xs))) (one (get_or xs i d)) (added at (all (take i xs)) was) ≡ added at (all (take (i + 1) xs)) was
    joins_added at was room = added_both at (all (take i xs)) (one (get_or xs i d)) was (omega (arith, joins_room)) ∙ ap (λ t. added at t was) (sym joins_step)

-- the checker's default for a field to write
abbrev pub no_piece : Piece
no_piece = Word (record { ref_ptr = (0, 0); now = [] })
