-- What one line of an allocation text after its heading says.
use Rattle.std.specs.Prelude.{ℕ, ◌+◌, ◌^◌, cond, ◌||◌, List, map, Some, None, Option, Result, nat_lt}
use Rattle.std.specs.Option.{option_map}
use Rattle.text.specs.Fields.{Shape, word, number, location, shape_of, number_below, word_in, by_first, at, and_then}
use Rattle.text.specs.declared.fields.Location.TheVariants.{Register, Slot}
use Rattle.text.specs.declared.fields.Fault.{Fault}
use Rattle.source.specs.declared.node.Operation.{Operation}
use Rattle.source.specs.Words.{condition_name, conditions}
use Rattle.allocation.specs.declared.heading.Heading.{Heading}
use Rattle.allocation.specs.declared.line.Main.TheVariants as main
use Rattle.allocation.specs.declared.words.Edge.{Edge}
use Rattle.allocation.specs.declared.words.Word.{Word}
use Rattle.allocation.specs.declared.words.Word.TheVariants.{Move, Skip, Const, Binary, Call, Branch, Return}
use Rattle.allocation.specs.declared.item.Item.{Item}
use Rattle.allocation.specs.declared.item.Item.TheVariants as item
use Rattle.allocation.specs.Words.{word_name, words}

-- how many fields follow the word
abbrev pub arity : Word → ℕ
arity (Move e) = 2
arity Skip = 0
arity Const = 2
arity (Binary o) = 3
arity Call = 4
arity Branch = 3
arity Return = 1

-- n, if it is below the bound
abbrev pub below : ℕ → ℕ → Option ℕ
below bound n = cond (nat_lt n bound) (Some n) None

-- the lines of an allocation with these registers and slots
module _ (h : Heading) where
  -- the number of a register or a slot: the slots come after the registers
  abbrev pub location_in : Shape → Option ℕ
  location_in (word bs) = None
  location_in (number n) = None
  location_in (location (Register n)) = below h.registers n
  location_in (location (Slot n)) = option_map (λ j. h.registers + j) (below h.slots n)

  abbrev pub register_in : Shape → Option ℕ
  register_in (word bs) = None
  register_in (number n) = None
  register_in (location (Register n)) = below h.registers n
  register_in (location (Slot n)) = None

  -- at least one of the two is a register
  abbrev pub moved : Edge → ℕ → ℕ → Option Item
  moved e to from = cond (nat_lt to h.registers || nat_lt from h.registers) (Some (item.Move e (record { to = to; from = from }))) None

  abbrev pub move_of : Edge → Shape → Shape → Option Item
  move_of e to from = and_then (location_in to) (λ x. and_then (location_in from) (λ y. moved e x y))

  abbrev pub const_of : Shape → Shape → Option Item
  const_of l k = and_then (register_in l) (λ x. option_map (λ y. item.Main (main.Const x y)) (number_below (2 ^ 32) k))

  abbrev pub binary_of : Operation → Shape → Shape → Shape → Option Item
  binary_of o l a b = and_then (register_in l) (λ x. and_then (register_in a) (λ y. option_map (λ z. item.Main (main.Binary o x y z)) (register_in b)))

  abbrev pub call_of : Shape → Shape → Shape → Shape → Option Item
  call_of l g a b = and_then (register_in l) (λ x. and_then (number_below 256 g) (λ f. and_then (register_in a) (λ y. option_map (λ z. item.Main (main.Call x f y z)) (register_in b))))

  abbrev pub branch_of : Shape → Shape → Shape → Option Item
  branch_of c a b = and_then (word_in condition_name conditions c) (λ t. and_then (register_in a) (λ y. option_map (λ z. item.Main (main.Branch t y z)) (register_in b)))

  abbrev pub return_of : Shape → Option Item
  return_of a = option_map (λ y. item.Main (main.Return y)) (register_in a)

  abbrev pub operands_of : Word → List Shape → Option Item
  operands_of (Move e) fs = move_of e (at fs 0) (at fs 1)
  operands_of Skip fs = Some (item.Main main.Skip)
  operands_of Const fs = const_of (at fs 0) (at fs 1)
  operands_of (Binary o) fs = binary_of o (at fs 0) (at fs 1) (at fs 2)
  operands_of Call fs = call_of (at fs 0) (at fs 1) (at fs 2) (at fs 3)
  operands_of Branch fs = branch_of (at fs 0) (at fs 1) (at fs 2)
  operands_of Return fs = return_of (at fs 0)

  -- what a line with these fields says
  unfoldable pub item_of : List (List ℕ) → Result Item Fault
  item_of fs = by_first word_name words arity operands_of (map shape_of fs)
