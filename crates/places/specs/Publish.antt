-- The allocation published for a source whose temporaries have places: a slot for each temporary, and the two
-- registers that no place is, R - 2 and R - 1, for what stands at home.
use Rattle.std.specs.Prelude.{ℕ, zero, suc, ◌+◌, ◌-◌, Bool, cond, ◌&&◌, ◌||◌, List, [], ◌∷◌, ◌++◌, map, ◌==◌, nat_lt}
use Rattle.source.specs.Reading.{Source}
use Rattle.source.specs.declared.node.Node.{Node}
use Rattle.source.specs.declared.node.Node.TheVariants as node
use Rattle.allocation.specs.Allocations.{Line, Allocation}
use Rattle.allocation.specs.declared.line.Move.{Move}
use Rattle.allocation.specs.declared.line.Main.{Main}
use Rattle.allocation.specs.declared.line.Main.TheVariants.{Skip, Const, Binary, Call, Branch, Return}
use Rattle.places.specs.declared.place.Place.{Place}
use Rattle.places.specs.Places.{locations}

infix 20 ◌⇐◌
-- the move to location l of what stands in location m
abbrev pub ◌⇐◌ : ℕ → ℕ → Move
l ⇐ m = record { to = l; from = m }

-- the register by which a main line names location l: itself, or the register t in place of a slot
abbrev pub register_for : ℕ → ℕ → ℕ → ℕ
register_for R t l = cond (nat_lt l R) l t

-- an operand in a slot is brought to register t
abbrev pub bring : ℕ → ℕ → ℕ → List Move
bring R t l = cond (nat_lt l R) [] ((t ⇐ l) ∷ [])

-- a first operand is brought to R - 2, a second to R - 1
abbrev pub bring_two : ℕ → ℕ → ℕ → List Move
bring_two R l m = bring R (R - 2) l ++ bring R (R - 1) m

-- a result of a slot is written to R - 2, and then moved to its slot
abbrev pub send : ℕ → ℕ → List Move
send R l = cond (nat_lt l R) [] ((l ⇐ (R - 2)) ∷ [])

-- a `mov` to location l of what stands in location m: two slots go through R - 2
abbrev pub copy : ℕ → ℕ → ℕ → List Move
copy R l m = cond (l == m) [] (cond (nat_lt l R || nat_lt m R) ((l ⇐ m) ∷ []) (((R - 2) ⇐ m) ∷ (l ⇐ (R - 2)) ∷ []))

module _ (R : ℕ) (place : ℕ → ℕ) where
  -- the register by which a main line names its result or its first operand, and its second operand
  abbrev pub first_register : ℕ → ℕ
  first_register v = register_for R (R - 2) (place v)

  abbrev pub second_register : ℕ → ℕ
  second_register v = register_for R (R - 1) (place v)

  -- the moves before the main line of a node
  abbrev pub ins_of : Node → List Move
  ins_of (node.Const d k next) = []
  ins_of (node.Mov d a next) = []
  ins_of (node.Binary o d a b next) = bring_two R (place a) (place b)
  ins_of (node.Call d h a b next) = bring_two R (place a) (place b)
  ins_of (node.Branch c a b taken other) = bring_two R (place a) (place b)
  ins_of (node.Return a) = bring R (R - 2) (place a)

  -- its main line
  abbrev pub main_of : Node → Main
  main_of (node.Const d k next) = Const (first_register d) k
  main_of (node.Mov d a next) = Skip
  main_of (node.Binary o d a b next) = Binary o (first_register d) (first_register a) (second_register b)
  main_of (node.Call d h a b next) = Call (first_register d) h (first_register a) (second_register b)
  main_of (node.Branch c a b taken other) = Branch c (first_register a) (second_register b)
  main_of (node.Return a) = Return (first_register a)

  -- the moves after it
  abbrev pub outs_of : Node → List Move
  outs_of (node.Const d k next) = send R (place d)
  outs_of (node.Mov d a next) = copy R (place d) (place a)
  outs_of (node.Binary o d a b next) = send R (place d)
  outs_of (node.Call d h a b next) = send R (place d)
  outs_of (node.Branch c a b taken other) = []
  outs_of (node.Return a) = []

  -- the line of a node
  abbrev pub published_line : Node → Line
  published_line n = record { ins = ins_of n; main = main_of n; outs = outs_of n; alts = [] }

  -- for each of the k parameters from i on that is live and has a register: the move from its slot
  abbrev pub entry_moves : (ℕ → Bool) → ℕ → ℕ → List Move
  entry_moves live i zero = []
  entry_moves live i (suc k) = cond (live i && nat_lt (place i) R) ((place i ⇐ (R + i)) ∷ entry_moves live (suc i) k) (entry_moves live (suc i) k)

-- the allocation for a list of places, by what is live (L)
abbrev pub published_allocation : Source → (ℕ → ℕ → Bool) → ℕ → List Place → Allocation
published_allocation s L R ps = record { registers = R; slots = s.temporaries; entry = entry_moves R (locations R ps) (L 0) 0 s.parameters; lines = map (published_line R (locations R ps)) s.nodes }
