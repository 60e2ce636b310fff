-- What is true of an allocation that stands.
use Rattle.std.specs.Prelude.{◌≡◌, ℕ, Bool, true, length}
use Rattle.source.specs.Reading.{Source}
use Rattle.allocation.specs.Allocations.{Allocation}
use Rattle.allocation.specs.WellFormed.{FewMoves}
use Rattle.equations.specs.Verdict.{Fits, Accepted}

-- it was accepted for its source, and placed it has few moves
pub record Stands (s : Source) (a : Allocation) (placed : Bool) : Type 0 where
  pub fits : Fits s a
  pub size : ℕ
  pub sets : ℕ → ℕ × ℕ → Bool
  pub accepted : Accepted s a size sets
  pub few : placed ≡ true → FewMoves (length s.nodes) a
