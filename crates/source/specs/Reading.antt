-- How a source text is read: the source, or the first question that says no.
use Rattle.std.specs.Prelude.{ℕ, ◌+◌, ◌^◌, min, cond, List, [], ◌∷◌, length, Some, None, Ok, Err, codes, Option, Result, ◌==◌}
use Rattle.std.specs.Option.{option_map}
use Rattle.text.specs.Parts.{lines_of, sized}
use Rattle.text.specs.Fields.{Shape, shapes_of, number_between, number_below, word_in, after_title, by_first, at, and_then}
use Rattle.text.specs.declared.fields.Fault.{Fault}
use Rattle.text.specs.declared.fields.Fault.TheVariants.{Word, Field}
use Rattle.refusal.specs.declared.Refusal.{Refusal}
use Rattle.refusal.specs.declared.Refusal.TheVariants.{SourceSize, SourceHeading, SourceLength, SourceWord, SourceField}
use Rattle.source.specs.declared.heading.Heading.{Heading}
use Rattle.source.specs.declared.node.Operation.{Operation}
use Rattle.source.specs.declared.node.Node.{Node}
use Rattle.source.specs.declared.node.Node.TheVariants as node
use Rattle.source.specs.declared.words.Opcode.{Opcode}
use Rattle.source.specs.declared.words.Opcode.TheVariants.{Const, Mov, Binary, Call, Branch, Return}
use Rattle.source.specs.Words.{opcode_name, condition_name, opcodes, conditions}

-- P parameters, V temporaries and the nodes in their order
pub record Source : Type 0 where
  pub parameters : ℕ
  pub temporaries : ℕ
  pub nodes : List Node

-- `source P V N`, after its title: V from 1 to 48, P from 0 to 8 and at most V, N from 1 to 256
abbrev pub heading_from : Shape → Shape → Shape → Option Heading
heading_from p v n =
    and_then (number_between 1 48 v) (λ t. and_then (number_between 0 (min t 8) p) (λ k. option_map (λ m. record { parameters = k; temporaries = t; nodes = m }) (number_between 1 256 n)))

unfoldable pub heading_of : List Shape → Option Heading
heading_of fs = and_then (after_title (codes "source") fs) (λ r. heading_from r.0 r.1 r.2)

-- how many fields follow the word
abbrev pub arity : Opcode → ℕ
arity Const = 3
arity Mov = 3
arity (Binary o) = 4
arity Call = 5
arity Branch = 5
arity Return = 1

-- a fault of the line with this number
abbrev pub refused : ℕ → Fault → Refusal
refused line Word = SourceWord line
refused line Field = SourceField line

abbrev pub with_first : Node → Result (List Node) Refusal → Result (List Node) Refusal
with_first n (Ok ns) = Ok (n ∷ ns)
with_first n (Err e) = Err e

abbrev pub then_read : ℕ → Result Node Fault → Result (List Node) Refusal → Result (List Node) Refusal
then_read line (Ok n) rest = with_first n rest
then_read line (Err f) rest = Err (refused line f)

-- the lines of nodes, in a source with these numbers
module _ (h : Heading) where
  abbrev pub temporary_in : Shape → Option ℕ
  temporary_in f = number_below h.temporaries f

  abbrev pub node_in : Shape → Option ℕ
  node_in f = number_below h.nodes f

  -- d k next
  abbrev pub const_of : Shape → Shape → Shape → Option Node
  const_of d k next = and_then (temporary_in d) (λ x. and_then (number_below (2 ^ 32) k) (λ y. option_map (λ z. node.Const x y z) (node_in next)))

  -- d a next
  abbrev pub mov_of : Shape → Shape → Shape → Option Node
  mov_of d a next = and_then (temporary_in d) (λ x. and_then (temporary_in a) (λ y. option_map (λ z. node.Mov x y z) (node_in next)))

  -- d a b next
  abbrev pub binary_of : Operation → Shape → Shape → Shape → Shape → Option Node
  binary_of o d a b next = and_then (temporary_in d) (λ x. and_then (temporary_in a) (λ y. and_then (temporary_in b) (λ z. option_map (λ m. node.Binary o x y z m) (node_in next))))

  -- d h a b next
  abbrev pub call_of : Shape → Shape → Shape → Shape → Shape → Option Node
  call_of d g a b next =
      and_then (temporary_in d) (λ x. and_then (number_below 256 g) (λ f. and_then (temporary_in a) (λ y. and_then (temporary_in b) (λ z. option_map (λ m. node.Call x f y z m) (node_in next)))))

  -- c a b yes no
  abbrev pub branch_of : Shape → Shape → Shape → Shape → Shape → Option Node
  branch_of c a b taken other =
      and_then (word_in condition_name conditions c) (λ t. and_then (temporary_in a) (λ y. and_then (temporary_in b) (λ z. and_then (node_in taken) (λ m. option_map (λ n. node.Branch t y z m n) (node_in other)))))

  -- a
  abbrev pub return_of : Shape → Option Node
  return_of a = option_map (λ y. node.Return y) (temporary_in a)

  abbrev pub operands_of : Opcode → List Shape → Option Node
  operands_of Const fs = const_of (at fs 0) (at fs 1) (at fs 2)
  operands_of Mov fs = mov_of (at fs 0) (at fs 1) (at fs 2)
  operands_of (Binary o) fs = binary_of o (at fs 0) (at fs 1) (at fs 2) (at fs 3)
  operands_of Call fs = call_of (at fs 0) (at fs 1) (at fs 2) (at fs 3) (at fs 4)
  operands_of Branch fs = branch_of (at fs 0) (at fs 1) (at fs 2) (at fs 3) (at fs 4)
  operands_of Return fs = return_of (at fs 0)

  -- the node that a line gives
  unfoldable pub node_of : List ℕ → Result Node Fault
  node_of line = by_first opcode_name opcodes arity operands_of (shapes_of line)

  -- the nodes of the lines from the k-th on; each line passes its questions before the next
  unfoldable pub read_nodes : ℕ → List (List ℕ) → Result (List Node) Refusal
  read_nodes k [] = Ok []
  read_nodes k (l ∷ ls) = then_read k (node_of l) (read_nodes (k + 1) ls)

abbrev pub sourced : Heading → Result (List Node) Refusal → Result Source Refusal
sourced h (Ok ns) = Ok (record { parameters = h.parameters; temporaries = h.temporaries; nodes = ns })
sourced h (Err e) = Err e

-- a line for each node, before any of them is read
abbrev pub counted : List (List ℕ) → Option Heading → Result Source Refusal
counted ls None = Err SourceHeading
counted ls (Some h) = cond (length ls == h.nodes) (sourced h (read_nodes h 2 ls)) (Err (SourceLength (min (length ls) h.nodes + 2)))

abbrev pub headed : List (List ℕ) → Result Source Refusal
headed [] = Err SourceHeading
headed (l ∷ ls) = counted ls (heading_of (shapes_of l))

-- a whole text
unfoldable pub read_source : List ℕ → Result Source Refusal
read_source bs = cond (sized bs) (headed (lines_of bs)) (Err SourceSize)
