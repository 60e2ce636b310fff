-- What the steps of publishing do to tables.
use Rattle.std.specs.Prelude.{◌≡◌, ℕ, ◌+◌, ◌≤◌, List, [], ◌∷◌, ◌++◌, map, length, take}
use Rattle.allocation.specs.Allocations.{Line, line_at, rows_in, moves_in}
use Rattle.allocation.specs.Lines.{lines_moves}
use Rattle.allocation.specs.declared.line.Move.{Move}
use Rattle.allocation.specs.declared.tables.Tables.{Tables}
use Rattle.places.specs.Places.{locations}
use Rattle.places.specs.declared.layout.Layout.{Layout}

-- where a layout has each temporary
abbrev pub place_of : Layout → ℕ → ℕ
place_of y = locations y.registers y.places.now

-- the lines of the rows of tables
abbrev pub lines_in : Tables → List Line
lines_in t = map (line_at (moves_in t)) (rows_in t)

-- u is t with the moves ms behind those there
pub record Added (t u : Tables) (ms : List Move) : Type 0 where
  pub heading : u.heading ≡ t.heading
  pub rows : rows_in u ≡ rows_in t
  pub entry : u.entry ≡ t.entry
  pub moves : moves_in u ≡ moves_in t ++ ms

-- u is t with one more line, and its moves behind those there
pub record Lined (t u : Tables) (line : Line) : Type 0 where
  pub heading : u.heading ≡ t.heading
  pub entry : u.entry ≡ t.entry
  pub lines : lines_in u ≡ lines_in t ++ line ∷ []
  pub moves : moves_in u ≡ moves_in t ++ (line.ins ++ line.outs)

-- u is t with these lines in place of what rows it had, and their moves behind those there
pub record Filled (t u : Tables) (ls : List Line) : Type 0 where
  pub heading : u.heading ≡ t.heading
  pub entry : u.entry ≡ t.entry
  pub lines : lines_in u ≡ ls
  pub front : take (length (moves_in t)) (moves_in u) ≡ moves_in t
  pub count : length (moves_in u) ≡ length (moves_in t) + lines_moves ls

-- tables with the registers and slots of a layout, and room for k more moves
pub record Open (t : Tables) (y : Layout) (k : ℕ) : Type 0 where
  pub registers : t.heading.registers ≡ y.registers
  pub slots : t.heading.slots ≡ length y.places.now
  pub room : length (moves_in t) + k ≤ 1024
