-- Allocations that have a text.
use Rattle.std.specs.Prelude.{◌≡◌, ℕ, ◌<◌, ◌≤◌, true, List, [], length}
use Rattle.std.specs.List.{AllByRecursion}
use Rattle.allocation.specs.declared.line.Move.{Move}
use Rattle.allocation.specs.declared.line.Main.{Main}
use Rattle.allocation.specs.declared.line.Main.TheVariants.{Skip, Const, Binary, Call, Branch, Return}
use Rattle.allocation.specs.Ranges.{move_fits, main_line_fits}
use Rattle.allocation.specs.Allocations.{Line, Allocation}
use Rattle.allocation.specs.Lines.{line_of, line_moves, move_count}

-- each move is in range
abbrev pub MovesIn : ℕ → ℕ → List Move → Type 0
MovesIn r s ms = AllByRecursion (λ m. move_fits r s m ≡ true) ms

-- only a branch has `alt` moves, and a return has no moves after it
abbrev pub Shaped : Main → List Move → List Move → Type 0
Shaped Skip outs alts = alts ≡ []
Shaped (Const l k) outs alts = alts ≡ []
Shaped (Binary o l a b) outs alts = alts ≡ []
Shaped (Call l h a b) outs alts = alts ≡ []
Shaped (Branch c a b) outs alts = Unit {0}
Shaped (Return a) outs alts = (outs ≡ []) × (alts ≡ [])

-- a line that is in range, with r registers and s slots
pub record LineIn (r s : ℕ) (l : Line) : Type 0 where
  pub ins_in : MovesIn r s l.ins
  pub main_in : main_line_fits r l.main ≡ true
  pub outs_in : MovesIn r s l.outs
  pub alts_in : MovesIn r s l.alts
  pub shaped : Shaped l.main l.outs l.alts

-- an allocation for a source with p parameters and n nodes
pub record WellFormed (p n : ℕ) (a : Allocation) : Type 0 where
  pub registers_low : 3 ≤ a.registers
  pub registers_high : a.registers ≤ 16
  pub slots_low : p ≤ a.slots
  pub slots_high : a.slots ≤ 48
  pub nodes : length a.lines ≡ n
  pub few_nodes : n ≤ 256
  pub few_moves : move_count a ≤ 1024
  pub entry_in : MovesIn a.registers a.slots a.entry
  pub lines_in : AllByRecursion (LineIn a.registers a.slots) a.lines

-- few moves: at most 8 before node 0, and at most 3 at each of the n nodes
pub record FewMoves (n : ℕ) (a : Allocation) : Type 0 where
  pub entry : length a.entry ≤ 8
  pub line : (k : ℕ) → k < n → line_moves (line_of a k) ≤ 3
