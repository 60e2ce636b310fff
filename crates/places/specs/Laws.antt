-- Laws of published lines.
use Rattle.std.specs.Prelude.{ℕ, ◌+◌, ◌*◌, ◌<◌, ◌≤◌, Bool, List, length}
use Rattle.source.specs.Nodes.{AllSound}
use Rattle.source.specs.Reading.{Source}
use Rattle.loader.specs.Live.{Liveness}
use Rattle.allocation.specs.Allocations.{Allocation}
use Rattle.allocation.specs.Lines.{move_count}
use Rattle.allocation.specs.WellFormed.{WellFormed, FewMoves}
use Rattle.equations.specs.Equations.{Equations}
use Rattle.equations.specs.Verdict.{Accepted}
use Rattle.places.specs.declared.place.Place.{Place}
use Rattle.places.specs.Places.{locations, Consistent, Arrives}
use Rattle.places.specs.Publish.{published_allocation}

-- a source as it is loaded, with the liveness L of its nodes
pub record Loadable (s : Source) (L : ℕ → ℕ → Bool) : Type 0 where
  pub sound : AllSound s.temporaries s.nodes
  pub some : 0 < length s.nodes
  pub few : s.temporaries ≤ 48
  pub within : s.parameters ≤ s.temporaries
  pub live : Liveness s.nodes L
  pub entry : Arrives s L

-- with enough work memory, the check accepts the allocation a
abbrev pub Passes : Source → Allocation → Type 0
Passes s a = (size : ℕ) → 64 * length s.nodes ≤ size → (X : ℕ → ℕ × ℕ → Bool) → Equations s a X → Accepted s a size X

-- the lines published for consistent places pass the check
abbrev pub ConsistentPlacesPass : Type 0
ConsistentPlacesPass =
    (s : Source) (L : ℕ → ℕ → Bool) (R : ℕ) (ps : List Place) → Loadable s L → 3 ≤ R → R ≤ 16 → Consistent s R L (locations R ps) → Passes s (published_allocation s L R ps)

-- and so do those of a placer, for every source and every number of registers
abbrev pub AlwaysPasses : (Source → (ℕ → ℕ → Bool) → ℕ → List Place) → Type 0
AlwaysPasses places = (s : Source) (L : ℕ → ℕ → Bool) (R : ℕ) → Loadable s L → 3 ≤ R → R ≤ 16 → Passes s (published_allocation s L R (places s L R))

-- published lines are few: at most 8 before node 0, and at most 3 a node
abbrev pub PublishedLinesFew : Type 0
PublishedLinesFew =
    (s : Source) (L : ℕ → ℕ → Bool) (R : ℕ) (ps : List Place) → s.parameters ≤ 8
    → FewMoves (length s.nodes) (published_allocation s L R ps) × (move_count (published_allocation s L R ps) ≤ 8 + 3 * length s.nodes)

-- published lines could be the lines of an allocation text
abbrev pub PublishedLinesWellFormed : Type 0
PublishedLinesWellFormed =
    (s : Source) (L : ℕ → ℕ → Bool) (R : ℕ) (ps : List Place) → Loadable s L → s.parameters ≤ 8 → length s.nodes ≤ 256 → 3 ≤ R → R ≤ 16 → Consistent s R L (locations R ps)
    → WellFormed s.parameters (length s.nodes) (published_allocation s L R ps)
