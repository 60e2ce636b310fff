-- How an allocation is written.
use Rattle.std.specs.Prelude.{ℕ, ◌-◌, cond, List, [], ◌∷◌, ◌++◌, map, length, codes, decimal, nat_lt}
use Rattle.source.specs.Words.{operation_name, condition_name}
use Rattle.allocation.specs.declared.line.Move.{Move}
use Rattle.allocation.specs.declared.line.Main.{Main}
use Rattle.allocation.specs.declared.line.Main.TheVariants.{Skip, Const, Binary, Call, Branch, Return}
use Rattle.allocation.specs.declared.words.Edge.{Edge}
use Rattle.allocation.specs.declared.item.Item.{Item}
use Rattle.allocation.specs.declared.item.Item.TheVariants as item
use Rattle.allocation.specs.declared.words.Edge.TheVariants.{Entry, In, Out, Alt}
use Rattle.text.specs.Parts.{written}
use Rattle.allocation.specs.Words.{edge_name}
use Rattle.allocation.specs.Allocations.{Line, Allocation}

abbrev pub register_name : ℕ → List ℕ
register_name l = 114 ∷ decimal l

-- a location by its number, with r registers
abbrev pub location_name : ℕ → ℕ → List ℕ
location_name r l = cond (nat_lt l r) (register_name l) (115 ∷ decimal (l - r))

-- the fields of a move's line
abbrev pub move_fields : ℕ → Edge → Move → List (List ℕ)
move_fields r e m = edge_name e ∷ location_name r m.to ∷ location_name r m.from ∷ []

-- the fields of a main line
abbrev pub main_fields : Main → List (List ℕ)
main_fields Skip = codes "skip" ∷ []
main_fields (Const l k) = codes "const" ∷ register_name l ∷ decimal k ∷ []
main_fields (Binary o l a b) = operation_name o ∷ register_name l ∷ register_name a ∷ register_name b ∷ []
main_fields (Call l h a b) = codes "call" ∷ register_name l ∷ decimal h ∷ register_name a ∷ register_name b ∷ []
main_fields (Branch c a b) = codes "br" ∷ condition_name c ∷ register_name a ∷ register_name b ∷ []
main_fields (Return a) = codes "ret" ∷ register_name a ∷ []

abbrev pub item_fields : ℕ → Item → List (List ℕ)
item_fields r (item.Move e m) = move_fields r e m
item_fields r (item.Main m) = main_fields m

-- the lines of moves, each by its fields
abbrev pub move_rows : ℕ → Edge → List Move → List (List (List ℕ))
move_rows r e ms = map (move_fields r e) ms

-- the lines of a node
abbrev pub line_rows : ℕ → Line → List (List (List ℕ))
line_rows r l = move_rows r In l.ins ++ (main_fields l.main ∷ (move_rows r Out l.outs ++ move_rows r Alt l.alts))

-- the lines of all nodes
abbrev pub lines_rows : ℕ → List Line → List (List (List ℕ))
lines_rows r [] = []
lines_rows r (l ∷ ls) = line_rows r l ++ lines_rows r ls

-- the heading of an allocation with r registers, s slots and n nodes
abbrev pub heading_fields : ℕ → ℕ → ℕ → List (List ℕ)
heading_fields r s n = codes "alloc" ∷ decimal r ∷ decimal s ∷ decimal n ∷ []

-- all lines of the text
abbrev pub rows_of : Allocation → List (List (List ℕ))
rows_of a = heading_fields a.registers a.slots (length a.lines) ∷ (move_rows a.registers Entry a.entry ++ lines_rows a.registers a.lines)

-- the text of an allocation
unfoldable pub render : Allocation → List ℕ
render a = written (rows_of a)
