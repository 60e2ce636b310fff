-- What a run relies on, and what it answers.
use Rattle.std.specs.Prelude.{◌≡◌, ℕ, ◌+◌, ◌<◌, ◌≤◌, true, cond, List, ◌++◌, map, length, take, drop, Some, None, Ok, Err, Option, Result, ◌==◌, nat_le}
use Rattle.refusal.specs.declared.Refusal.{Refusal}
use Rattle.refusal.specs.declared.Refusal.TheVariants.{Arguments, Cells as FewCells}
use Rattle.source.specs.Nodes.{action, node_at, AllSound}
use Rattle.source.specs.Reading.{Source}
use Rattle.source.specs.declared.node.Node.{Node}
use Rattle.allocation.specs.Allocations.{Allocation, line_at}
use Rattle.allocation.specs.declared.line.Row.{Row}
use Rattle.allocation.specs.Ranges.{row_at, RowsFit, MovesFit}
use Rattle.values.specs.Kinds.{Arithmetic}
use Rattle.values.specs.Hosts.{Answers}
use Rattle.machine.specs.declared.code.Code.{Code}
use Rattle.machine.specs.declared.outcome.Entry.{Entry}
use Rattle.machine.specs.declared.outcome.Report.{Report}
use Rattle.allocation.specs.Lines.{main_action}
use Rattle.machine.specs.Machine.{asks, Ending, Cells, allocated_run}

-- the source and the allocation that tables hold
abbrev pub code_source : Code → Source
code_source c = record { parameters = c.source.parameters; temporaries = c.source.temporaries; nodes = c.nodes.now }

abbrev pub code_allocation : Code → Allocation
code_allocation c = record { registers = c.locations.registers; slots = c.locations.slots; entry = take c.entry c.moves.now; lines = map (line_at c.moves.now) c.rows.now }

-- a main line asks the host only where its node does
abbrev pub AsksAsNodes : List Node → List Row → Type 0
AsksAsNodes nodes rows = (n : ℕ) → n < length rows → asks (main_action (row_at rows n).main) ≡ true → asks (Some (action (node_at nodes n))) ≡ true

-- what a run relies on: a row for each node, numbers in range, and no call but where the node is one, since only there the
-- list is looked at for room
pub record Runnable (c : Code) : Type 0 where
  pub sound : AllSound c.source.temporaries c.nodes.now
  pub some : 0 < length c.nodes.now
  pub long : length c.rows.now ≡ length c.nodes.now
  pub rows : RowsFit c.locations.registers (length c.moves.now) c.rows.now
  pub moves : MovesFit c.locations.registers c.locations.slots c.moves.now
  pub entry : c.entry ≤ length c.moves.now
  pub few : length c.moves.now ≤ 1024
  pub asking : AsksAsNodes c.nodes.now c.rows.now

-- a list after a transcript is written to its front: the rest is untouched
abbrev pub laid : {V : Type 0} → List (Entry V) → List (Entry V) → List (Entry V)
laid ts l = ts ++ drop (length ts) l

-- the first question of a run that says no
abbrev pub refusal_of : Source → Allocation → ℕ → ℕ → Option Refusal
refusal_of s a args cells = cond (args == s.parameters) (cond (nat_le (a.registers + a.slots) cells) None (Some FewCells)) (Some Arguments)

-- a run that ended as e: its report, the host's state, the cells, and the list l, whose front is now the transcript
pub record Finished {V S : Type 0} (e : Ending V S (Cells V)) (l : List (Entry V)) (r : Report V) (h' : S) (cs' : List V) (l' : List (Entry V)) : Type 0 where
  pub outcome : r.outcome ≡ e.outcome
  pub nodes : r.nodes ≡ e.log.count
  pub moves : r.moves ≡ e.memory.moves
  pub entries : r.entries ≡ length e.log.transcript
  pub host : h' ≡ e.log.host
  pub cells : cs' ≡ e.memory.cells
  pub list : l' ≡ laid e.log.transcript l

-- nothing was changed
pub record Untouched {V S : Type 0} (h : S) (cs : List V) (l : List (Entry V)) (h' : S) (cs' : List V) (l' : List (Entry V)) : Type 0 where
  pub host : h' ≡ h
  pub cells : cs' ≡ cs
  pub list : l' ≡ l

-- a run is granted and ends as the allocated machine does, or is refused and changes nothing
module _ {V S : Type 0} (K : Arithmetic V) (E : Answers S V) (s : Source) (a : Allocation) (budget : ℕ) (args : List V) (h : S) (cs : List V) (l : List (Entry V)) where
  abbrev pub Answered : Result (Report V) Refusal → S → List V → List (Entry V) → Type 0
  Answered (Ok r) h' cs' l' = (refusal_of s a (length args) (length cs) ≡ None) × Finished (allocated_run K E s a budget (length l) args h cs) l r h' cs' l'
  Answered (Err e) h' cs' l' = (refusal_of s a (length args) (length cs) ≡ Some e) × Untouched h cs l h' cs' l'
