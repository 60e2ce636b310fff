-- What the lines of an allocation do, and how many moves they have.
use Rattle.std.specs.Prelude.{ℕ, ◌+◌, Bool, cond, List, [], ◌∷◌, length, Some, None, Option, slice_index_or}
use Rattle.source.specs.Nodes.{Action, const, binary, call, branch, return}
use Rattle.allocation.specs.declared.line.Move.{Move}
use Rattle.allocation.specs.declared.line.Main.{Main}
use Rattle.allocation.specs.declared.line.Main.TheVariants.{Skip, Const, Binary, Call, Branch, Return}
use Rattle.allocation.specs.Allocations.{Line, Allocation}

-- what a main line does: `skip` does nothing
abbrev pub main_action : Main → Option Action
main_action Skip = None
main_action (Const l k) = Some (const k)
main_action (Binary o l a b) = Some (binary o)
main_action (Call l h a b) = Some (call h)
main_action (Branch c a b) = Some (branch c)
main_action (Return a) = Some return

-- the moves of an edge: `out` on that to next or yes, `alt` on that to no
abbrev pub edge_moves : Line → Bool → List Move
edge_moves line e = cond e line.outs line.alts

-- the line of node n
abbrev pub line_of : Allocation → ℕ → Line
line_of a n = slice_index_or a.lines n (record { ins = []; main = Skip; outs = []; alts = [] })

-- the location of parameter 0 before the entry moves; the other parameters follow it
abbrev pub arrival : Allocation → ℕ
arrival a = a.registers

-- how many moves there are
abbrev pub line_moves : Line → ℕ
line_moves l = length l.ins + length l.outs + length l.alts

abbrev pub lines_moves : List Line → ℕ
lines_moves [] = 0
lines_moves (l ∷ ls) = line_moves l + lines_moves ls

abbrev pub move_count : Allocation → ℕ
move_count a = length a.entry + lines_moves a.lines
