-- An accepted allocation runs as its source does, and how many moves a run makes.
use Rattle.std.specs.Prelude.{◌≡◌, ℕ, ◌+◌, ◌*◌, ◌<◌, ◌≤◌, Bool, List, length}
use Rattle.source.specs.Reading.{Source}
use Rattle.allocation.specs.Allocations.{Allocation, rows_in, allocation_of}
use Rattle.allocation.specs.Lines.{line_of, line_moves}
use Rattle.allocation.specs.WellFormed.{WellFormed}
use Rattle.allocation.specs.declared.tables.Tables.{Tables}
use Rattle.equations.specs.Verdict.{Fits, Accepted}
use Rattle.values.specs.Kinds.{Arithmetic}
use Rattle.values.specs.Hosts.{Answers}
use Rattle.machine.specs.Machine.{Ending, Cells, source_run, allocated_run}
use Rattle.machine.specs.Run.{AsksAsNodes}

-- two runs end alike: with one outcome, at one node, with one count of nodes, one transcript and one state of the host
pub record Alike {V S A B : Type 0} (x : Ending V S A) (y : Ending V S B) : Type 0 where
  pub outcome : x.outcome ≡ y.outcome
  pub log : x.log ≡ y.log

-- a run that passes n nodes makes at most 8 + 3 * n moves
abbrev pub FewMade : {V S : Type 0} → Ending V S (Cells V) → Type 0
FewMade x = x.memory.moves ≤ 8 + 3 * x.log.count

module _ {V S : Type 0} (K : Arithmetic V) (E : Answers S V) where
  -- the allocation's runs end as the source's do, whatever the budget, the room for calls, the arguments, the host's state and the cells
  abbrev pub SameRuns : Source → Allocation → Type 0
  SameRuns s a =
      (budget room : ℕ) (args : List V) → length args ≡ s.parameters → (h : S) (cells : List V) → a.registers + a.slots ≤ length cells
      → Alike (source_run K E s budget room args h) (allocated_run K E s a budget room args h cells)

  -- an accepted allocation that is in range runs as its source does
  abbrev pub RunsAsSource : Type 0
  RunsAsSource = (s : Source) (a : Allocation) (size : ℕ) (X : ℕ → ℕ × ℕ → Bool) → Fits s a → WellFormed s.parameters (length s.nodes) a → Accepted s a size X → SameRuns s a

  -- so does an accepted allocation that tables hold, which keep it in range
  abbrev pub TablesRunAsSource : Type 0
  TablesRunAsSource = (s : Source) (t : Tables) (size : ℕ) (X : ℕ → ℕ × ℕ → Bool) → Fits s (allocation_of t) → Accepted s (allocation_of t) size X → SameRuns s (allocation_of t)

  -- an allocation with at most 8 moves before node 0 and at most 3 at each node makes few
  abbrev pub FewMovesANode : Type 0
  FewMovesANode =
      (s : Source) (a : Allocation) → length a.lines ≡ length s.nodes → length a.entry ≤ 8 → ((n : ℕ) → n < length s.nodes → line_moves (line_of a n) ≤ 3)
      → (budget room : ℕ) (args : List V) (h : S) (cells : List V) → FewMade (allocated_run K E s a budget room args h cells)

-- accepted tables ask the host only where the source's nodes do, which a run relies on
abbrev pub AcceptedAsks : Type 0
AcceptedAsks = (s : Source) (t : Tables) (size : ℕ) (X : ℕ → ℕ × ℕ → Bool) → Fits s (allocation_of t) → Accepted s (allocation_of t) size X → AsksAsNodes s.nodes (rows_in t)
