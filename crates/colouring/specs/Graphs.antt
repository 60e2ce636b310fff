-- A graph in the words of colouring.
use Rattle.std.specs.Prelude.{ℕ, Bool, length}
use Rattle.colouring.specs.Colouring.{rows}
use Rattle.colouring.specs.declared.graph.Graph.{Graph}

-- how many temporaries it has
abbrev pub order : Graph → ℕ
order g = length g.rows.now

-- which of them are in conflict
abbrev pub edges : Graph → ℕ → ℕ → Bool
edges g = rows g.rows.now
