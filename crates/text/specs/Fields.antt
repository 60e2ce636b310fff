-- What a field says.
use Rattle.std.specs.Prelude.{ℕ, ◌+◌, Bool, false, cond, ◌&&◌, List, [], ◌∷◌, map, length, Some, None, Err, Option, Result, ◌==◌, nat_le, nat_lt, slice_index_or}
use Rattle.std.specs.Option.{option_map, ok_or}
use Rattle.std.specs.Str.{bytes_eq}
use Rattle.text.specs.Number.{number_of}
use Rattle.text.specs.Parts.{fields_of}
use Rattle.text.specs.Words.{named}
use Rattle.text.specs.declared.fields.Location.{Location}
use Rattle.text.specs.declared.fields.Location.TheVariants.{Register, Slot}
use Rattle.text.specs.declared.fields.Fault.{Fault}
use Rattle.text.specs.declared.fields.Fault.TheVariants as fault
use Rattle.text.specs.declared.fields.Field.{Field}
use Rattle.text.specs.declared.fields.Field.TheVariants.{Word, Number, Location as Located}

-- the letter `r` or `s`, and then a number
abbrev pub location_of : List ℕ → Option Location
location_of [] = None
location_of (c ∷ cs) = cond (c == 114) (option_map Register (number_of cs)) (cond (c == 115) (option_map Slot (number_of cs)) None)

-- what a field says: its form alone decides
pub data Shape : Type 0 where
  word : List ℕ → Shape
  number : ℕ → Shape
  location : Location → Shape

abbrev pub or_location : List ℕ → Option Location → Shape
or_location bs None = word bs
or_location bs (Some l) = location l

abbrev pub or_number : List ℕ → Option ℕ → Shape
or_number bs None = or_location bs (location_of bs)
or_number bs (Some n) = number n

-- a number, else a location, else a word
abbrev pub shape_of : List ℕ → Shape
shape_of bs = or_number bs (number_of bs)

-- a field as the program holds it: what it says, its bytes, and where it begins
abbrev pub shape : Field → Shape
shape (Word t s) = word t.now
shape (Number t s v) = number v
shape (Located t s l) = location l

abbrev pub bytes : Field → List ℕ
bytes (Word t s) = t.now
bytes (Number t s v) = t.now
bytes (Located t s l) = t.now

abbrev pub start_of : Field → ℕ
start_of (Word t s) = s
start_of (Number t s v) = s
start_of (Located t s l) = s

-- what the fields of a line say
abbrev pub shapes_of : List ℕ → List Shape
shapes_of line = map shape_of (fields_of line)

-- where each field begins, the first at `at`, each after the one byte that ends the field before
abbrev pub starts : ℕ → List (List ℕ) → List ℕ
starts at [] = []
starts at (p ∷ ps) = at ∷ starts (at + length p + 1) ps

-- a number from `low` to `high`
abbrev pub number_between : ℕ → ℕ → Shape → Option ℕ
number_between low high (word bs) = None
number_between low high (number n) = cond (nat_le low n && nat_le n high) (Some n) None
number_between low high (location l) = None

-- a number below a bound
abbrev pub number_below : ℕ → Shape → Option ℕ
number_below bound (word bs) = None
number_below bound (number n) = cond (nat_lt n bound) (Some n) None
number_below bound (location l) = None

-- one of the words
abbrev pub word_in : {W : Type 0} → (W → List ℕ) → List W → Shape → Option W
word_in spelling words (word bs) = named spelling words bs
word_in spelling words (number n) = None
word_in spelling words (location l) = None

-- does a field say this word?
abbrev pub says : List ℕ → Shape → Bool
says w (word bs) = bytes_eq bs w
says w (number n) = false
says w (location l) = false

-- the i-th of what the fields say
abbrev pub at : List Shape → ℕ → Shape
at fs i = slice_index_or fs i (word [])

-- go on with a value that is there
abbrev pub and_then : {A B : Type 0} → Option A → (A → Option B) → Option B
and_then None f = None
and_then (Some a) f = f a

-- the fields of a heading after its title, of which there are three
abbrev pub after_title : List ℕ → List Shape → Option (Shape × Shape × Shape)
after_title title fs = cond (length fs == 4 && says title (at fs 0)) (Some (at fs 1, at fs 2, at fs 3)) None

-- the word that a line begins with
abbrev pub first_word : {W : Type 0} → (W → List ℕ) → List W → List Shape → Option W
first_word spelling words [] = None
first_word spelling words (f ∷ fs) = word_in spelling words f

-- a line that begins with one of the words: the word is known, then it has its count of fields, then they are right
module _ {W A : Type 0} (spelling : W → List ℕ) (words : List W) (arity : W → ℕ) (operands : W → List Shape → Option A) where
  abbrev pub by_word : Option W → List Shape → Result A Fault
  by_word None fs = Err fault.Word
  by_word (Some w) fs = cond (length fs == arity w) (ok_or (operands w fs) fault.Field) (Err fault.Word)

  abbrev pub by_first : List Shape → Result A Fault
  by_first [] = Err fault.Word
  by_first (f ∷ fs) = by_word (word_in spelling words f) fs
