-- Reading and writing one line undo each other.
use Rattle.std.proofs.Common.{◌≡◌, ℕ, ◌+◌, ◌-◌, ◌^◌, ◌<◌, ◌≤◌, Bool, true, false, cond, ◌&&◌, ◌||◌, ltb, List, [], ◌∷◌, map, length, IfOk, Some, None, Ok, Err, codes, decimal, Result, sym, refl, ap, ◌∙◌, subst, arith}
use Rattle.std.proofs.lemmas.Bool.{cond-true, cond-false, lt-ltb, ltb-true, ltb-false, le-ltb, and_parts, and_from}
use Rattle.std.specs.Option.{option_map, ok_or}
use Rattle.text.specs.declared.fields.Location.TheVariants.{Register, Slot}
use Rattle.text.specs.declared.fields.Fault.{Fault}
use Rattle.text.specs.declared.fields.Fault.TheVariants as fault
use Rattle.text.specs.Parts.{fields_of}
use Rattle.text.specs.Words.{named}
use Rattle.text.specs.Fields.{Shape, word, number, location, shape_of, number_below, word_in, by_first, and_then}
use Rattle.text.proofs.TextLaws.{Lacks, AllLack, Plain}
use Rattle.text.proofs.FieldLaws.{Inverse, shape_register, shape_slot, shape_is_location, decimal_lacks, mapped_some, below_inverse, word_inverse, first_written, first_read}
use Rattle.text.proofs.Saying.{and_then-some}
use Rattle.source.specs.declared.node.Operation.{Operation}
use Rattle.source.specs.declared.node.Operation.TheVariants.{Add, Sub, Mul, Min, Max}
use Rattle.source.specs.declared.node.Condition.{Condition}
use Rattle.source.specs.declared.node.Condition.TheVariants.{Eq, Lt, Le}
use Rattle.source.specs.Words.{condition_name, conditions}
use Rattle.allocation.specs.declared.heading.Heading.{Heading}
use Rattle.allocation.specs.declared.line.Main.TheVariants as main
use Rattle.allocation.specs.declared.words.Edge.{Edge}
use Rattle.allocation.specs.declared.words.Edge.TheVariants.{Entry, In, Out, Alt}
use Rattle.allocation.specs.declared.words.Word.{Word}
use Rattle.allocation.specs.declared.words.Word.TheVariants.{Move, Skip, Const, Binary, Call, Branch, Return}
use Rattle.allocation.specs.declared.item.Item.{Item}
use Rattle.allocation.specs.declared.item.Item.TheVariants as item
use Rattle.allocation.specs.Words.{edge_name, word_name, words}
use Rattle.allocation.specs.Ranges.{item_fits}
use Rattle.allocation.specs.Items.{below, location_in, register_in, moved, arity, move_of, const_of, binary_of, call_of, branch_of, return_of, operands_of, item_of}
use Rattle.allocation.specs.Rendering.{register_name, location_name, item_fields}

-- the words

word-plain : (w : Word) → shape_of (word_name w) ≡ word (word_name w)
word-plain (Move Entry) = refl
word-plain (Move In) = refl
word-plain (Move Out) = refl
word-plain (Move Alt) = refl
word-plain Skip = refl
word-plain Const = refl
word-plain (Binary Add) = refl
word-plain (Binary Sub) = refl
word-plain (Binary Mul) = refl
word-plain (Binary Min) = refl
word-plain (Binary Max) = refl
word-plain Call = refl
word-plain Branch = refl
word-plain Return = refl

word_found : (w : Word) → named word_name words (word_name w) ≡ Some w
unfolding words
word_found (Move Entry) = refl
word_found (Move In) = refl
word_found (Move Out) = refl
word_found (Move Alt) = refl
word_found Skip = refl
word_found Const = refl
word_found (Binary Add) = refl
word_found (Binary Sub) = refl
word_found (Binary Mul) = refl
word_found (Binary Min) = refl
word_found (Binary Max) = refl
word_found Call = refl
word_found Branch = refl
word_found Return = refl

word_lacks : (b : ℕ) → b < 48 → (w : Word) → Lacks b (word_name w)
word_lacks b low (Move Entry) = omega arith
word_lacks b low (Move In) = omega arith
word_lacks b low (Move Out) = omega arith
word_lacks b low (Move Alt) = omega arith
word_lacks b low Skip = omega arith
word_lacks b low Const = omega arith
word_lacks b low (Binary Add) = omega arith
word_lacks b low (Binary Sub) = omega arith
word_lacks b low (Binary Mul) = omega arith
word_lacks b low (Binary Min) = omega arith
word_lacks b low (Binary Max) = omega arith
word_lacks b low Call = omega arith
word_lacks b low Branch = omega arith
word_lacks b low Return = omega arith

words_inverse : Inverse (word_in word_name words) word_name (λ _. Unit {0})
words_inverse = word_inverse word_name words word-plain word_found word_lacks

condition_plain : (c : Condition) → shape_of (condition_name c) ≡ word (condition_name c)
condition_plain Eq = refl
condition_plain Lt = refl
condition_plain Le = refl

condition_found : (c : Condition) → named condition_name conditions (condition_name c) ≡ Some c
condition_found Eq = refl
condition_found Lt = refl
condition_found Le = refl

condition_lacks : (b : ℕ) → b < 48 → (c : Condition) → Lacks b (condition_name c)
condition_lacks b low Eq = omega arith
condition_lacks b low Lt = omega arith
condition_lacks b low Le = omega arith

conditions_inverse : Inverse (word_in condition_name conditions) condition_name (λ _. Unit {0})
conditions_inverse = word_inverse condition_name conditions condition_plain condition_found condition_lacks

-- the locations

below_is : (b n m : ℕ) → below b n ≡ Some m → (n ≡ m) × (m < b)
below_is b n m e = go (ltb n b) refl e
  where
    go : (t : Bool) → ltb n b ≡ t → cond t (Some n) None ≡ Some m → (n ≡ m) × (m < b)
    go true t k = let p : n ≡ m = cc in (p, omega (arith, ltb-true n b t))
    go false t k = grind arith

below_ok : (b n : ℕ) → n < b → below b n ≡ Some n
below_ok b n h = cond-true _ _ _ (lt-ltb n b h)

module _ (h : Heading) (few : h.registers + h.slots ≤ 64) where
  registers_inverse : Inverse (register_in h) register_name (λ l. l < h.registers)
  registers_inverse = record {
    reads = λ l k. ap (register_in h) (shape_register l (omega arith)) ∙ below_ok h.registers l k;
    is = λ f l e. is f l (shape_of f) refl e;
    lacks = λ b low l k. ((λ e. omega arith), decimal_lacks b low l (omega arith));
  }
    where
      is : (f : List ℕ) (l : ℕ) (s : Shape) → shape_of f ≡ s → register_in h s ≡ Some l → (f ≡ register_name l) × (l < h.registers)
      is f l (word bs) q k = grind arith
      is f l (number n) q k = grind arith
      is f l (location (Register n)) q k = let p = below_is h.registers n l k in (shape_is_location f (Register n) q ∙ ap register_name p.0, p.1)
      is f l (location (Slot n)) q k = grind arith

  name_register_lem : (l : ℕ) → l < h.registers → location_name h.registers l ≡ register_name l
  name_register_lem l k = cond-true _ _ _ (lt-ltb l h.registers k)

  name_slot : (l : ℕ) → h.registers ≤ l → location_name h.registers l ≡ 115 ∷ decimal (l - h.registers)
  name_slot l k = cond-false _ _ _ (le-ltb l h.registers k)

  locations_inverse : Inverse (location_in h) (location_name h.registers) (λ l. l < h.registers + h.slots)
  locations_inverse = record {
    reads = λ l k. reads l k (ltb l h.registers) refl;
    is = λ f l e. is f l (shape_of f) refl e;
    lacks = λ b low l k. lacks b low l k (ltb l h.registers) refl;
  }
    where
      reads : (l : ℕ) → l < h.registers + h.slots → (t : Bool) → ltb l h.registers ≡ t → location_in h (shape_of (location_name h.registers l)) ≡ Some l
      reads l k true t =
          let in-range : l < h.registers = ltb-true l h.registers t in
          ap (λ f. location_in h (shape_of f)) (name_register_lem l in-range) ∙ ap (location_in h) (shape_register l (omega arith)) ∙ below_ok h.registers l in-range
      reads l k false t =
          let past : h.registers ≤ l = ltb-false l h.registers t in
          let same : h.registers + (l - h.registers) ≡ l = omega arith in
          ap (λ f. location_in h (shape_of f)) (name_slot l past) ∙ ap (location_in h) (shape_slot (l - h.registers) (omega arith))
          ∙ ap (option_map (λ j. h.registers + j)) (below_ok h.slots (l - h.registers) (omega arith)) ∙ ap Some same

      is : (f : List ℕ) (l : ℕ) (s : Shape) → shape_of f ≡ s → location_in h s ≡ Some l → (f ≡ location_name h.registers l) × (l < h.registers + h.slots)
      is f l (word bs) q k = grind arith
      is f l (number n) q k = grind arith
      is f l (location (Register n)) q k =
          let p = below_is h.registers n l k in
          (shape_is_location f (Register n) q ∙ ap register_name p.0 ∙ sym (name_register_lem l p.1), omega (arith, p.1))
      is f l (location (Slot n)) q k =
          let p = mapped_some (λ j. h.registers + j) (below h.slots n) l k in
          let r = below_is h.slots n p.0 p.1 in
          let same : n ≡ l - h.registers = omega (arith, p.2, r.0) in
          (shape_is_location f (Slot n) q ∙ ap (λ j. 115 ∷ decimal j) same ∙ sym (name_slot l (omega (arith, p.2))), omega (arith, p.2, r.1))

      lacks : (b : ℕ) → b < 48 → (l : ℕ) → l < h.registers + h.slots → (t : Bool) → ltb l h.registers ≡ t → Lacks b (location_name h.registers l)
      lacks b low l k true t = subst (Lacks b) (sym (name_register_lem l (ltb-true l h.registers t))) ((λ e. omega arith), decimal_lacks b low l (omega arith))
      lacks b low l k false t = subst (Lacks b) (sym (name_slot l (ltb-false l h.registers t))) ((λ e. omega arith), decimal_lacks b low (l - h.registers) (omega arith))

-- tests, one after another
more : (a b : ℕ) (r : Bool) → (ltb a b && r) ≡ true → (a < b) × (r ≡ true)
more a b r h = let p = and_parts (ltb a b) r h in (ltb-true a b p.0, p.1)

both : (a b : ℕ) (r : Bool) → a < b → r ≡ true → (ltb a b && r) ≡ true
both a b r h k = and_from (ltb a b) r (lt-ltb a b h) k

-- the fields fs are those of the item i, which is in range
abbrev pub Says : Heading → List (List ℕ) → Item → Type 0
Says h fs i = (fs ≡ item_fields h.registers i) × (item_fits h i ≡ true)

-- read, then written

module _ (h : Heading) (few : h.registers + h.slots ≤ 64) (i : Item) where
  abbrev r : ℕ
  r = h.registers

  reg_is : (f : List ℕ) (l : ℕ) → register_in h (shape_of f) ≡ Some l → (f ≡ register_name l) × (l < r)
  reg_is f l e = (registers_inverse h few).is f l e

  num_is : (b : ℕ) → b ≤ 10 ^ 10 → (f : List ℕ) (n : ℕ) → number_below b (shape_of f) ≡ Some n → (f ≡ decimal n) × (n < b)
  num_is b small f n e = (below_inverse b small).is f n e

  move_is : (e : Edge) (a b : List ℕ) → move_of h e (shape_of a) (shape_of b) ≡ Some i → Says h (edge_name e ∷ a ∷ b ∷ []) i
  move_is e a b k =
      let p = and_then-some (location_in h (shape_of a)) _ i k in
      let q = and_then-some (location_in h (shape_of b)) _ i p.2 in
      let x = (locations_inverse h few).is a p.0 p.1 in
      let y = (locations_inverse h few).is b q.0 q.1 in
      last p.0 q.0 x.0 y.0 x.1 y.1 (ltb p.0 r || ltb q.0 r) refl q.2
    where
      last : (t o : ℕ) → a ≡ location_name r t → b ≡ location_name r o → t < r + h.slots → o < r + h.slots → (w : Bool) → (ltb t r || ltb o r) ≡ w → cond w (Some (item.Move e (record { to = t; from = o }))) None ≡ Some i → Says h (edge_name e ∷ a ∷ b ∷ []) i
      last t o x y u v true one k =
          let is : item.Move e (record { to = t; from = o }) ≡ i = cc in
          subst (Says h (edge_name e ∷ a ∷ b ∷ [])) is ((λ j. edge_name e ∷ x j ∷ y j ∷ []), and_from _ _ (both t (r + h.slots) _ u (lt-ltb o (r + h.slots) v)) one)
      last t o x y u v false one k = grind arith

  const_is : (a b : List ℕ) → const_of h (shape_of a) (shape_of b) ≡ Some i → Says h (codes "const" ∷ a ∷ b ∷ []) i
  const_is a b k =
      let p = and_then-some (register_in h (shape_of a)) _ i k in
      let q = mapped_some _ (number_below (2 ^ 32) (shape_of b)) i p.2 in
      let x = reg_is a p.0 p.1 in
      let y = num_is (2 ^ 32) (omega arith) b q.0 q.1 in
      subst (Says h (codes "const" ∷ a ∷ b ∷ [])) q.2 ((λ j. codes "const" ∷ x.0 j ∷ y.0 j ∷ []), both p.0 r _ x.1 (lt-ltb _ (2 ^ 32) y.1))

  binary_is : (o : Operation) (d a b : List ℕ) → binary_of h o (shape_of d) (shape_of a) (shape_of b) ≡ Some i → Says h (word_name (Binary o) ∷ d ∷ a ∷ b ∷ []) i
  binary_is o d a b k =
      let p = and_then-some (register_in h (shape_of d)) _ i k in
      let q = and_then-some (register_in h (shape_of a)) _ i p.2 in
      let t = mapped_some _ (register_in h (shape_of b)) i q.2 in
      let x = reg_is d p.0 p.1 in
      let y = reg_is a q.0 q.1 in
      let z = reg_is b t.0 t.1 in
      subst (Says h (word_name (Binary o) ∷ d ∷ a ∷ b ∷ [])) t.2 ((λ j. word_name (Binary o) ∷ x.0 j ∷ y.0 j ∷ z.0 j ∷ []), both p.0 r _ x.1 (both q.0 r _ y.1 (lt-ltb _ r z.1)))

  call_is : (d g a b : List ℕ) → call_of h (shape_of d) (shape_of g) (shape_of a) (shape_of b) ≡ Some i → Says h (codes "call" ∷ d ∷ g ∷ a ∷ b ∷ []) i
  call_is d g a b k =
      let p = and_then-some (register_in h (shape_of d)) _ i k in
      let u = and_then-some (number_below 256 (shape_of g)) _ i p.2 in
      let q = and_then-some (register_in h (shape_of a)) _ i u.2 in
      let t = mapped_some _ (register_in h (shape_of b)) i q.2 in
      let x = reg_is d p.0 p.1 in
      let v = num_is 256 (omega arith) g u.0 u.1 in
      let y = reg_is a q.0 q.1 in
      let z = reg_is b t.0 t.1 in
      subst (Says h (codes "call" ∷ d ∷ g ∷ a ∷ b ∷ [])) t.2 ((λ j. codes "call" ∷ x.0 j ∷ v.0 j ∷ y.0 j ∷ z.0 j ∷ []), both p.0 r _ x.1 (both u.0 256 _ v.1 (both q.0 r _ y.1 (lt-ltb _ r z.1))))

  branch_is : (c a b : List ℕ) → branch_of h (shape_of c) (shape_of a) (shape_of b) ≡ Some i → Says h (codes "br" ∷ c ∷ a ∷ b ∷ []) i
  branch_is c a b k =
      let p = and_then-some (word_in condition_name conditions (shape_of c)) _ i k in
      let q = and_then-some (register_in h (shape_of a)) _ i p.2 in
      let t = mapped_some _ (register_in h (shape_of b)) i q.2 in
      let x = conditions_inverse.is c p.0 p.1 in
      let y = reg_is a q.0 q.1 in
      let z = reg_is b t.0 t.1 in
      subst (Says h (codes "br" ∷ c ∷ a ∷ b ∷ [])) t.2 ((λ j. codes "br" ∷ x.0 j ∷ y.0 j ∷ z.0 j ∷ []), both q.0 r _ y.1 (lt-ltb _ r z.1))

  return_is : (a : List ℕ) → return_of h (shape_of a) ≡ Some i → Says h (codes "ret" ∷ a ∷ []) i
  return_is a k =
      let t = mapped_some _ (register_in h (shape_of a)) i k in
      let z = reg_is a t.0 t.1 in
      subst (Says h (codes "ret" ∷ a ∷ [])) t.2 ((λ j. codes "ret" ∷ z.0 j ∷ []), lt-ltb _ r z.1)

  -- the fields after the word, of which there are as many as it wants
  operands_are : (w : Word) (gs : List (List ℕ)) → length gs ≡ arity w → operands_of h w (map shape_of gs) ≡ Some i → Says h (word_name w ∷ gs) i
  operands_are (Move e) [] n k = absurd (omega arith)
  operands_are (Move e) (a ∷ []) n k = absurd (omega arith)
  operands_are (Move e) (a ∷ b ∷ []) n k = move_is e a b k
  operands_are (Move e) (a ∷ b ∷ c ∷ gs) n k = absurd (omega arith)
  operands_are Skip [] n k = let is : item.Main main.Skip ≡ i = cc in subst (Says h (word_name Skip ∷ [])) is (refl, refl)
  operands_are Skip (a ∷ gs) n k = absurd (omega arith)
  operands_are Const [] n k = absurd (omega arith)
  operands_are Const (a ∷ []) n k = absurd (omega arith)
  operands_are Const (a ∷ b ∷ []) n k = const_is a b k
  operands_are Const (a ∷ b ∷ c ∷ gs) n k = absurd (omega arith)
  operands_are (Binary o) [] n k = absurd (omega arith)
  operands_are (Binary o) (a ∷ []) n k = absurd (omega arith)
  operands_are (Binary o) (a ∷ b ∷ []) n k = absurd (omega arith)
  operands_are (Binary o) (a ∷ b ∷ c ∷ []) n k = binary_is o a b c k
  operands_are (Binary o) (a ∷ b ∷ c ∷ d ∷ gs) n k = absurd (omega arith)
  operands_are Call [] n k = absurd (omega arith)
  operands_are Call (a ∷ []) n k = absurd (omega arith)
  operands_are Call (a ∷ b ∷ []) n k = absurd (omega arith)
  operands_are Call (a ∷ b ∷ c ∷ []) n k = absurd (omega arith)
  operands_are Call (a ∷ b ∷ c ∷ d ∷ []) n k = call_is a b c d k
  operands_are Call (a ∷ b ∷ c ∷ d ∷ e ∷ gs) n k = absurd (omega arith)
  operands_are Branch [] n k = absurd (omega arith)
  operands_are Branch (a ∷ []) n k = absurd (omega arith)
  operands_are Branch (a ∷ b ∷ []) n k = absurd (omega arith)
  operands_are Branch (a ∷ b ∷ c ∷ []) n k = branch_is a b c k
  operands_are Branch (a ∷ b ∷ c ∷ d ∷ gs) n k = absurd (omega arith)
  operands_are Return [] n k = absurd (omega arith)
  operands_are Return (a ∷ []) n k = return_is a k
  operands_are Return (a ∷ b ∷ gs) n k = absurd (omega arith)

  pub item_read : (fs : List (List ℕ)) → item_of h fs ≡ Ok i → Says h fs i
  unfolding item_of
  item_read fs e =
      let r = first_read word_name words arity (operands_of h) words_inverse fs i e in
      subst (λ gs. Says h gs i) (sym r.is) (operands_are r.leader r.rest r.long r.read)

pub item_read_fits : (h : Heading) → h.registers + h.slots ≤ 64 → (line : List ℕ) (r : Result Item Fault) → r ≡ item_of h (fields_of line) → IfOk r (λ i. item_fits h i ≡ true)
item_read_fits h few line (Ok i) e = (item_read h few i (fields_of line) (sym e)).1
item_read_fits h few line (Err f) e = tt

-- written, then read

module _ (h : Heading) (few : h.registers + h.slots ≤ 64) where
  abbrev reg : ℕ → Shape
  reg l = shape_of (register_name l)

  reg_ok : (l : ℕ) → l < h.registers → register_in h (reg l) ≡ Some l
  reg_ok l k = (registers_inverse h few).reads l k

  num_ok : (b : ℕ) → b ≤ 10 ^ 10 → (n : ℕ) → n < b → number_below b (shape_of (decimal n)) ≡ Some n
  num_ok b small n k = (below_inverse b small).reads n k

  lead : (w : Word) (fs : List Shape) → length fs ≡ arity w → by_first word_name words arity (operands_of h) (shape_of (word_name w) ∷ fs) ≡ ok_or (operands_of h w fs) fault.Field
  lead = first_written word_name words arity (operands_of h) words_inverse

  pub item_written : (i : Item) → item_fits h i ≡ true → item_of h (item_fields h.registers i) ≡ Ok i
  unfolding item_of
  item_written (item.Move e m) k =
      let p = and_parts _ _ k in
      let q = more m.to (h.registers + h.slots) _ p.0 in
      lead (Move e) (shape_of (location_name h.registers m.to) ∷ shape_of (location_name h.registers m.from) ∷ []) refl
      ∙ (λ j. ok_or (and_then ((locations_inverse h few).reads m.to q.0 j) (λ x. and_then ((locations_inverse h few).reads m.from (ltb-true _ _ q.1) j) (λ y. moved h e x y))) fault.Field)
      ∙ ap (λ o. ok_or o fault.Field) (cond-true _ _ _ p.1)
  item_written (item.Main main.Skip) k = lead Skip [] refl
  item_written (item.Main (main.Const l v)) k =
      let p = more l h.registers _ k in
      lead Const (reg l ∷ shape_of (decimal v) ∷ []) refl
      ∙ (λ j. ok_or (and_then (reg_ok l p.0 j) (λ x. option_map (λ y. item.Main (main.Const x y)) (num_ok (2 ^ 32) (omega arith) v (ltb-true _ _ p.1) j))) fault.Field)
  item_written (item.Main (main.Binary o l a b)) k =
      let p = more l h.registers _ k in
      let q = more a h.registers _ p.1 in
      lead (Binary o) (reg l ∷ reg a ∷ reg b ∷ []) refl
      ∙ (λ j. ok_or (and_then (reg_ok l p.0 j) (λ x. and_then (reg_ok a q.0 j) (λ y. option_map (λ z. item.Main (main.Binary o x y z)) (reg_ok b (ltb-true _ _ q.1) j)))) fault.Field)
  item_written (item.Main (main.Call l g a b)) k =
      let p = more l h.registers _ k in
      let t = more g 256 _ p.1 in
      let q = more a h.registers _ t.1 in
      lead Call (reg l ∷ shape_of (decimal g) ∷ reg a ∷ reg b ∷ []) refl
      ∙ (λ j. ok_or (and_then (reg_ok l p.0 j) (λ x. and_then (num_ok 256 (omega arith) g t.0 j) (λ f. and_then (reg_ok a q.0 j) (λ y. option_map (λ z. item.Main (main.Call x f y z)) (reg_ok b (ltb-true _ _ q.1) j))))) fault.Field)
  item_written (item.Main (main.Branch c a b)) k =
      let q = more a h.registers _ k in
      lead Branch (shape_of (condition_name c) ∷ reg a ∷ reg b ∷ []) refl
      ∙ (λ j. ok_or (and_then (conditions_inverse.reads c tt j) (λ t. and_then (reg_ok a q.0 j) (λ y. option_map (λ z. item.Main (main.Branch t y z)) (reg_ok b (ltb-true _ _ q.1) j)))) fault.Field)
  item_written (item.Main (main.Return a)) k = lead Return (reg a ∷ []) refl ∙ (λ j. ok_or (option_map (λ y. item.Main (main.Return y)) (reg_ok a (ltb-true _ _ k) j)) fault.Field)

  -- no field has a separator in it
  item_lacks : (b : ℕ) → b < 48 → (i : Item) → item_fits h i ≡ true → AllLack b (item_fields h.registers i)
  item_lacks b low (item.Move e m) k =
      let p = and_parts _ _ k in
      let q = more m.to (h.registers + h.slots) _ p.0 in
      (word_lacks b low (Move e), ((locations_inverse h few).lacks b low m.to q.0, ((locations_inverse h few).lacks b low m.from (ltb-true _ _ q.1), tt)))
  item_lacks b low (item.Main main.Skip) k = (word_lacks b low Skip, tt)
  item_lacks b low (item.Main (main.Const l v)) k =
      let p = more l h.registers _ k in
      (word_lacks b low Const, ((registers_inverse h few).lacks b low l p.0, ((below_inverse (2 ^ 32) (omega arith)).lacks b low v (ltb-true _ _ p.1), tt)))
  item_lacks b low (item.Main (main.Binary o l x y)) k =
      let p = more l h.registers _ k in
      let q = more x h.registers _ p.1 in
      (word_lacks b low (Binary o), ((registers_inverse h few).lacks b low l p.0, ((registers_inverse h few).lacks b low x q.0, ((registers_inverse h few).lacks b low y (ltb-true _ _ q.1), tt))))
  item_lacks b low (item.Main (main.Call l g x y)) k =
      let p = more l h.registers _ k in
      let t = more g 256 _ p.1 in
      let q = more x h.registers _ t.1 in
      (word_lacks b low Call, ((registers_inverse h few).lacks b low l p.0, ((below_inverse 256 (omega arith)).lacks b low g t.0, ((registers_inverse h few).lacks b low x q.0, ((registers_inverse h few).lacks b low y (ltb-true _ _ q.1), tt)))))
  item_lacks b low (item.Main (main.Branch c x y)) k =
      let q = more x h.registers _ k in
      (word_lacks b low Branch, (condition_lacks b low c, ((registers_inverse h few).lacks b low x q.0, ((registers_inverse h few).lacks b low y (ltb-true _ _ q.1), tt))))
  item_lacks b low (item.Main (main.Return x)) k = (word_lacks b low Return, ((registers_inverse h few).lacks b low x (ltb-true _ _ k), tt))

  item_some : (i : Item) → 0 < length (item_fields h.registers i)
  item_some (item.Move e m) = omega arith
  item_some (item.Main main.Skip) = omega arith
  item_some (item.Main (main.Const l v)) = omega arith
  item_some (item.Main (main.Binary o l a b)) = omega arith
  item_some (item.Main (main.Call l g a b)) = omega arith
  item_some (item.Main (main.Branch c a b)) = omega arith
  item_some (item.Main (main.Return a)) = omega arith

  pub item_plain : (i : Item) → item_fits h i ≡ true → Plain (item_fields h.registers i)
  item_plain i k = record { some = item_some i; no_tab = item_lacks 9 (omega arith) i k; no_end = item_lacks 10 (omega arith) i k }
