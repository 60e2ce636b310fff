-- What the steps of a check do to words, and what they rely on: every location and every temporary is below 64,
-- and every place is in its table.
use Rattle.std.specs.Prelude.{◌≡◌, ℕ, ◌+◌, ◌<◌, ◌≤◌, Bool, ◌&&◌, ◌||◌, List, length, IfSome, ◌==◌, slice_index}
use Rattle.sets.specs.Masks.{Below}
use Rattle.source.specs.Nodes.{node_at}
use Rattle.source.specs.declared.node.Node.{Node}
use Rattle.allocation.specs.Allocations.{Line, target, origins, line_at}
use Rattle.allocation.specs.Ranges.{row_at, move_at}
use Rattle.allocation.specs.declared.line.Move.{Move}
use Rattle.allocation.specs.declared.line.Main.{Main}
use Rattle.allocation.specs.declared.line.Row.{Row}
use Rattle.equations.specs.declared.candidate.Candidate.{Candidate}
use Rattle.equations.specs.Equations.{before}

-- with the equations of the location l with the temporaries in D
unfoldable pub with : ℕ → (ℕ → Bool) → (ℕ × ℕ → Bool) → ℕ × ℕ → Bool
with l D E e = E e || (e.0 == l && D e.1)

-- the union of two sets
unfoldable pub either : (ℕ × ℕ → Bool) → (ℕ × ℕ → Bool) → ℕ × ℕ → Bool
either E G e = E e || G e

-- the moves
pub record MovesReach (ms : List Move) : Type 0 where
  pub at : (i : ℕ) → i < length ms → ((move_at ms i).to < 64) × ((move_at ms i).from < 64)

-- a main line
pub record MainReach (main : Main) : Type 0 where
  pub target : IfSome (target main) (λ l. l < 64)
  pub origins : Below 64 (origins main)

-- a row, in a table of `len` moves
pub record RowReach (len : ℕ) (row : Row) : Type 0 where
  pub main : MainReach row.main
  pub ins : row.ins ≤ row.outs
  pub outs : row.outs ≤ row.alts
  pub alts : row.alts ≤ row.end
  pub end : row.end ≤ len

-- the sets before all nodes, by themselves, over tables
abbrev pub step_in : List Node → List Row → List Move → (ℕ → ℕ × ℕ → Bool) → ℕ → ℕ × ℕ → Bool
step_in nodes rows moves X n = before X (node_at nodes n) (line_at moves (row_at rows n))

-- the line of node n of a candidate, and its equations
abbrev pub line_in : Candidate → ℕ → Line
line_in c n = line_at c.moves.now (row_at c.rows.now n)

abbrev pub step_of : Candidate → (ℕ → ℕ × ℕ → Bool) → ℕ → ℕ × ℕ → Bool
step_of c = step_in c.nodes.now c.rows.now c.moves.now

-- from the word `at` on, words' has the words of `set`, and elsewhere what words has
pub record Stored (words : List ℕ) (at : ℕ) (set words' : List ℕ) : Type 0 where
  pub here : (l : ℕ) → l < length set → slice_index words' (at + l) ≡ slice_index set l
  pub others : (k : ℕ) → (at ≤ k → at + length set ≤ k) → slice_index words' k ≡ slice_index words k
