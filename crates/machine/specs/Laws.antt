-- Runs compose.
use Rattle.std.specs.Prelude.{◌≡◌, ℕ, ◌+◌}
use Rattle.source.specs.Reading.{Source}
use Rattle.allocation.specs.Allocations.{Allocation}
use Rattle.values.specs.Kinds.{Arithmetic}
use Rattle.values.specs.Hosts.{Answers}
use Rattle.machine.specs.declared.outcome.Outcome.{Outcome}
use Rattle.machine.specs.Machine.{Log, Ending, Cells, source_from, allocated_from}

-- a run that is over, or that was spent and goes on from where it stands
abbrev pub resumed : {V S M : Type 0} → Outcome V → Ending V S M → (Log V S → M → Ending V S M) → Ending V S M
resumed (Outcome.Ended v) x on = x
resumed Outcome.Spent x on = on x.log x.memory
resumed Outcome.Full x on = x

abbrev pub then_on : {V S M : Type 0} → Ending V S M → (Log V S → M → Ending V S M) → Ending V S M
then_on x on = resumed x.outcome x on

-- a run with the budget j + k is one with the budget j, and where that is spent, one with the budget k from there
pub record Composes {V S : Type 0} (K : Arithmetic V) (E : Answers S V) : Type 0 where
  pub source : (s : Source) (room j k : ℕ) (p : Log V S) (f : ℕ → V) → source_from K E s (j + k) room p f ≡ then_on (source_from K E s j room p f) (source_from K E s k room)
  pub allocated : (s : Source) (a : Allocation) (room j k : ℕ) (p : Log V S) (c : Cells V) → allocated_from K E s a (j + k) room p c ≡ then_on (allocated_from K E s a j room p c) (allocated_from K E s a k room)
