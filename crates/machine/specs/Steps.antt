-- Where a run stands in the caller's memory, and what passing nodes does to it.
use Rattle.std.specs.Prelude.{◌≡◌, ℕ, ◌+◌, ◌-◌, ◌*◌, ◌<◌, ◌≤◌, Bool, List, map, length, take, drop}
use Rattle.std.specs.declared.ops.ControlFlow.{ControlFlow}
use Rattle.allocation.specs.Allocations.{target, origins}
use Rattle.allocation.specs.Ranges.{move_at}
use Rattle.allocation.specs.declared.line.Move.{Move}
use Rattle.allocation.specs.declared.line.Main.{Main}
use Rattle.values.specs.Kinds.{Arithmetic}
use Rattle.values.specs.Hosts.{Answers}
use Rattle.machine.specs.declared.code.Code.{Code}
use Rattle.machine.specs.declared.outcome.Outcome.{Outcome}
use Rattle.machine.specs.declared.outcome.Entry.{Entry}
use Rattle.machine.specs.declared.running.Position.{Position}
use Rattle.machine.specs.declared.running.Running.{Running}
use Rattle.allocation.specs.Lines.{main_action}
use Rattle.machine.specs.Machine.{Log, Progress, goes, ends, Cells, Effect, effect, read, store, move_all, write_all, allocated_step, allocated_from}
use Rattle.machine.specs.Run.{code_source, code_allocation, Runnable}

-- every move reads one of the first k cells
abbrev pub ReadsBelow : ℕ → List Move → Type 0
ReadsBelow k ms = (i : ℕ) → i < length ms → (move_at ms i).from < k

-- where a run stands, with the host's state, the cells and the list
pub record Standing (V S : Type 0) : Type 0 where
  pub at : Position
  pub host : S
  pub cells : List V
  pub list : List (Entry V)

-- the state and the cells are those that the kinds of host and frame mean
abbrev pub standing : {V S H F : Type 0} → (H → S) → (F → List V) → Running V H F → Standing V S
standing state cells r = record { at = r.at; host = state r.host.now; cells = cells r.frame.now; list = r.list.now }

-- what the machine then holds
abbrev pub log_of : {V S : Type 0} → Standing V S → Log V S
log_of s = record { node = s.at.node; count = s.at.nodes; transcript = take s.at.entries s.list; host = s.host }

abbrev pub cells_of : {V S : Type 0} → Standing V S → Cells V
cells_of s = record { cells = s.cells; moves = s.at.moves }

-- the tables that can be run, a node and cells that are there, no more moves than the nodes passed can make, and
-- no more entries than the list has room for
pub record InRange {V S : Type 0} (code : Code) (s : Standing V S) : Type 0 where
  pub runnable : Runnable code
  pub node : s.at.node < length code.nodes.now
  pub moves : s.at.moves ≤ 2048 * s.at.nodes + 1024
  pub entries : s.at.entries ≤ length s.list
  pub cells : code.locations.registers + code.locations.slots ≤ length s.cells

-- the same tables, and the same references lent
pub record SameLent {V H F : Type 0} (b a : Running V H F) : Type 0 where
  pub code : a.code ≡ b.code
  pub host : a.host.ghost_name ≡ b.host.ghost_name
  pub frame : a.frame.ghost_name ≡ b.frame.ghost_name
  pub list : a.list.ghost_name ≡ b.list.ghost_name

-- moves made, in order
pub record Moved {V S : Type 0} (K : Arithmetic V) (ms : List Move) (b a : Standing V S) : Type 0 where
  pub cells : move_all K ms (cells_of b) ≡ cells_of a
  pub at : a.at ≡ record b.at { moves = b.at.moves + length ms }
  pub host : a.host ≡ b.host
  pub list : a.list ≡ b.list

module _ {V S : Type 0} (K : Arithmetic V) (E : Answers S V) where
  abbrev pub main_effect : Main → List V → S → Effect V S
  main_effect m cs h = effect K E (main_action m) (map (read K cs) (origins m)) h

  -- a main line carried out
  pub record Done (m : Main) (b : Standing V S) (r : ControlFlow V Bool) (a : Standing V S) : Type 0 where
    pub taken : r ≡ (main_effect m b.cells b.host).taken
    pub cells : a.cells ≡ store (target m) (main_effect m b.cells b.host).value b.cells
    pub host : a.host ≡ (main_effect m b.cells b.host).host
    pub list : a.list ≡ write_all b.at.entries (main_effect m b.cells b.host).told b.list
    pub at : a.at ≡ record b.at { entries = b.at.entries + length (main_effect m b.cells b.host).told }

  abbrev pub progress_of : ControlFlow V (Unit {0}) → Log V S → Cells V → Progress V S (Cells V)
  progress_of (ControlFlow.Continue _) p c = goes p c
  progress_of (ControlFlow.Break v) p c = ends v p c

  module _ (code : Code) where
    -- one node passed
    pub record Stepped (b : Standing V S) (r : ControlFlow V (Unit {0})) (a : Standing V S) : Type 0 where
      pub step : allocated_step K E (code_source code) (code_allocation code) (log_of b) (cells_of b) ≡ progress_of r (log_of a) (cells_of a)
      pub nodes : a.at.nodes ≡ b.at.nodes + 1
      pub grows : b.at.entries ≤ a.at.entries
      pub rest : drop a.at.entries a.list ≡ drop a.at.entries b.list
      pub long : length a.list ≡ length b.list
      pub in_range : InRange code a

    -- a run from where it stands until it is over
    pub record Ran (budget : ℕ) (b : Standing V S) (r : Outcome V) (a : Standing V S) : Type 0 where
      pub ending : allocated_from K E (code_source code) (code_allocation code) (budget - b.at.nodes) (length b.list) (log_of b) (cells_of b) ≡ record { outcome = r; log = log_of a; memory = cells_of a }
      pub entries : a.at.entries ≤ length a.list
      pub rest : drop a.at.entries a.list ≡ drop a.at.entries b.list
