-- Allocations.
use Rattle.std.specs.Prelude.{ℕ, List, [], ◌∷◌, map, take, Some, None, vec_items, Option}
use Rattle.std.specs.List.{between}
use Rattle.allocation.specs.declared.line.Move.{Move}
use Rattle.allocation.specs.declared.line.Main.{Main}
use Rattle.allocation.specs.declared.line.Main.TheVariants.{Skip, Const, Binary, Call, Branch, Return}
use Rattle.allocation.specs.declared.line.Row.{Row}
use Rattle.allocation.specs.declared.tables.Tables.{Tables}

-- what a node does: its moves before the main line, the main line, its moves after it, and those after a branch that goes to `no`
pub record Line : Type 0 where
  pub ins : List Move
  pub main : Main
  pub outs : List Move
  pub alts : List Move

-- the moves before node 0, and a line for each node
pub record Allocation : Type 0 where
  pub registers : ℕ
  pub slots : ℕ
  pub entry : List Move
  pub lines : List Line

-- the register that a main line sets, if any
abbrev pub target : Main → Option ℕ
target Skip = None
target (Const l k) = Some l
target (Binary o l a b) = Some l
target (Call l h a b) = Some l
target (Branch c a b) = None
target (Return a) = None

-- the registers that a main line reads, in order
abbrev pub origins : Main → List ℕ
origins Skip = []
origins (Const l k) = []
origins (Binary o l a b) = a ∷ b ∷ []
origins (Call l h a b) = a ∷ b ∷ []
origins (Branch c a b) = a ∷ b ∷ []
origins (Return a) = a ∷ []

-- the line of a row, in a table of all moves
abbrev pub line_at : List Move → Row → Line
line_at moves row = record { ins = between row.ins row.outs moves; main = row.main; outs = between row.outs row.alts moves; alts = between row.alts row.end moves }

abbrev pub rows_in : Tables → List Row
rows_in t = vec_items t.rows

abbrev pub moves_in : Tables → List Move
moves_in t = vec_items t.moves

-- the allocation that tables hold
abbrev pub allocation_of : Tables → Allocation
allocation_of t = record { registers = t.heading.registers; slots = t.heading.slots; entry = take t.entry (moves_in t); lines = map (line_at (moves_in t)) (rows_in t) }

-- what new tables hold
abbrev pub nothing : Allocation
nothing = record { registers = 0; slots = 0; entry = []; lines = [] }
