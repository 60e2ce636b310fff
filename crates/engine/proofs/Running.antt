-- What stands can be run, and its runs keep the promise.
use Rattle.std.proofs.Common.{◌≡◌, ℕ, ◌+◌, ◌<◌, ◌≤◌, Bool, true, false, cond, eqb, leb, ◌⊎◌, List, map, length, take, Some, None, Ok, Err, Result, sym, refl, ap, ◌∙◌, subst, subst₂, inl, inr, arith}
use mathlib.Core.Bool.{Bool-set}
use mathlib.Core.Logic.{∥∥₁_elim, ∥∥₁_map}
use base.Stored.{Coded, Coded-set, coded_unit, coded_ℕ, coded×, coded⊎, coded_list, coded_via}
use Rattle.std.proofs.lemmas.List.{length-map}
use Rattle.std.proofs.lemmas.Bool.{lt-ltb, ltb-true, le-leb, leb-true, eq-eqb, eqb-true}
use Rattle.refusal.specs.declared.Refusal.{Refusal}
use Rattle.refusal.specs.declared.Refusal.TheVariants.{Arguments, Cells as FewCells}
use Rattle.source.specs.declared.heading.Heading.{Heading}
use Rattle.source.specs.declared.node.Node.{Node}
use Rattle.source.specs.declared.table.Table.{Table}
use Rattle.source.specs.Nodes.{AllSound}
use Rattle.source.specs.Reading.{Source}
use Rattle.source.specs.Tables.{nodes_in, source_in}
use Rattle.allocation.specs.declared.heading.Heading as locations
use Rattle.allocation.specs.declared.line.Move.{Move}
use Rattle.allocation.specs.declared.line.Row.{Row}
use Rattle.allocation.specs.declared.tables.Tables.{Tables}
use Rattle.allocation.specs.Allocations.{Allocation, line_at, rows_in, moves_in, allocation_of}
use Rattle.allocation.specs.Ranges.{RowsFit, MovesFit}
use Rattle.values.specs.Kinds.{Arithmetic}
use Rattle.values.specs.Hosts.{Answers}
use Rattle.machine.specs.declared.code.Code.{Code}
use Rattle.machine.specs.declared.outcome.Entry.{Entry}
use Rattle.machine.specs.declared.outcome.Outcome.{Outcome}
use Rattle.machine.specs.declared.outcome.Report.{Report}
use Rattle.machine.specs.Machine.{Ending, Log, source_run, allocated_run}
use Rattle.machine.specs.Run.{code_source, code_allocation, AsksAsNodes, Runnable, refusal_of, laid, Finished, Answered}
use Rattle.soundness.specs.Law.{Alike}
use Rattle.soundness.proofs.Located.{tables_located}
use Rattle.soundness.proofs.Simulation.{runs_as_source}
use Rattle.soundness.proofs.Asking.{accepted_asks_lem}
use Rattle.soundness.proofs.Counting.{few_moves_a_node_lem}
use Rattle.engine.specs.Stands.{Stands}
use Rattle.engine.specs.Calls.{KeptPromise, RunStanding}
use Rattle.engine.proofs.Hosts.{tells, source_told, allocated_told}

module _ (h : Heading) (table : Table) (t : Tables) (placed : Bool) (st : ∥ Stands (source_in h table) (allocation_of t) placed ∥₁) where
  sound : AllSound h.temporaries (nodes_in table)
  sound n l = ∥∥₁_elim st (Bool-set _ _) (λ s. s.fits.sound n l)

  some : 0 < length (nodes_in table)
  some = ltb-true 0 _ (∥∥₁_elim st (Bool-set _ _) (λ s. lt-ltb 0 _ s.fits.some))

  long : length (rows_in t) ≡ length (nodes_in table)
  long = eqb-true _ _ (∥∥₁_elim st (Bool-set _ _) (λ s. eq-eqb _ _ (sym (length-map (rows_in t) (line_at (moves_in t))) ∙ s.fits.lines)))

  asking : AsksAsNodes (nodes_in table) (rows_in t)
  asking n l e = ∥∥₁_elim st (Bool-set _ _) (λ s. accepted_asks_lem (source_in h table) t s.size s.sets s.fits s.accepted n l e)

  -- the tables, as a run is given them
  pub runnable : (code : Code) → code.source ≡ h → code.locations ≡ t.heading → code.entry ≡ t.entry → code.nodes.now ≡ nodes_in table → code.rows.now ≡ rows_in t → code.moves.now ≡ moves_in t → Runnable code
  runnable code s l e n r m = record {
    sound = subst₂ (λ (x : Heading) (ns : List Node). AllSound x.temporaries ns) (sym s) (sym n) sound;
    some = subst (λ (ns : List Node). 0 < length ns) (sym n) some;
    long = ap length r ∙ long ∙ sym (ap length n);
    rows = subst₂ (λ (x : locations.Heading) (ms : List Move). RowsFit x.registers (length ms) code.rows.now) (sym l) (sym m) (subst (RowsFit t.heading.registers (length (moves_in t))) (sym r) t.rows_fit);
    moves = subst₂ (λ (x : locations.Heading) (ms : List Move). MovesFit x.registers x.slots ms) (sym l) (sym m) t.moves_fit;
    entry = omega (arith, e, ap length m, t.entry_within);
    few = omega (arith, ap length m, t.few_moves, t.move_len);
    asking = subst₂ (λ (ns : List Node) (rs : List Row). AsksAsNodes ns rs) (sym n) (sym r) asking;
  }

-- the source and the allocation that a run is given are those that stand
pub same_source : (h : Heading) (table : Table) (code : Code) → code.source ≡ h → code.nodes.now ≡ nodes_in table → code_source code ≡ source_in h table
same_source h table code s n = subst₂ (λ (x : Heading) (ns : List Node). code_source code ≡ record { parameters = x.parameters; temporaries = x.temporaries; nodes = ns }) s n refl

pub same_allocation : (t : Tables) (code : Code) → code.locations ≡ t.heading → code.entry ≡ t.entry → code.rows.now ≡ rows_in t → code.moves.now ≡ moves_in t → code_allocation code ≡ allocation_of t
same_allocation t code l e r m =
    subst₂ (λ (x : locations.Heading) (k : ℕ). code_allocation code ≡ record { registers = x.registers; slots = x.slots; entry = take k (moves_in t); lines = map (line_at (moves_in t)) (rows_in t) }) l e
    (subst₂ (λ (rs : List Row) (ms : List Move). code_allocation code ≡ record { registers = code.locations.registers; slots = code.locations.slots; entry = take code.entry ms; lines = map (line_at ms) rs }) r m refl)

-- outcomes and entries are sets where values are
codedOutcome : {V : Type 0} → Coded V → Coded (Outcome V)
codedOutcome {V} c = coded_via (coded⊎ c (coded⊎ coded_unit coded_unit)) there (λ x y e. sym (back_there x) ∙ ap back e ∙ back_there y)
  where
    there : Outcome V → V ⊎ (Unit {0} ⊎ Unit {0})
    there (Outcome.Ended v) = inl v
    there Outcome.Spent = inr (inl tt)
    there Outcome.Full = inr (inr tt)

    back : V ⊎ (Unit {0} ⊎ Unit {0}) → Outcome V
    back (inl v) = Outcome.Ended v
    back (inr (inl u)) = Outcome.Spent
    back (inr (inr u)) = Outcome.Full

    back_there : (x : Outcome V) → back (there x) ≡ x
    back_there (Outcome.Ended v) = refl
    back_there Outcome.Spent = refl
    back_there Outcome.Full = refl

codedEntry : {V : Type 0} → Coded V → Coded (Entry V)
codedEntry c = coded_via (coded× (coded× coded_ℕ c) (coded× c c)) (λ e. ((e.function, e.first), (e.second, e.answer))) (λ x y p i. record { function = (p i).0.0; first = (p i).0.1; second = (p i).1.0; answer = (p i).1.1 })

-- a run that is not refused has its arguments and its cells
right_many : (s : Source) (a : Allocation) (args cells : ℕ) → refusal_of s a args cells ≡ None → (args ≡ s.parameters) × (a.registers + a.slots ≤ cells)
right_many s a args cells e = go (eqb args s.parameters) refl (leb (a.registers + a.slots) cells) refl e
  where
    go : (b : Bool) → eqb args s.parameters ≡ b → (c : Bool) → leb (a.registers + a.slots) cells ≡ c → cond b (cond c None (Some FewCells)) (Some Arguments) ≡ None → (args ≡ s.parameters) × (a.registers + a.slots ≤ cells)
    go true p true q k = (eqb-true _ _ p, leb-true _ _ q)
    go true p false q k = absurd (some_none k)
      where
        some_none : {A : Type 0} {x : A} → Some x ≡ None → ⊥
        some_none k = let z : ◌≡◌ {A = ℕ} 0 1 = cc in omega arith
    go false p c q k = absurd (some_none k)
      where
        some_none : {A : Type 0} {x : A} → Some x ≡ None → ⊥
        some_none k = let z : ◌≡◌ {A = ℕ} 0 1 = cc in omega arith

module _ {V S : Type 0} (K : Arithmetic V) (E : Answers S V) (cv : Coded V) (h : Heading) (table : Table) (t : Tables) (placed : Bool) (st : ∥ Stands (source_in h table) (allocation_of t) placed ∥₁) (budget : ℕ) (args : List V) (s : S) (cs : List V) (l : List (Entry V)) where
  abbrev by_source : Ending V S (ℕ → V)
  by_source = source_run K E (source_in h table) budget (length l) args s

  module _ (ok : refusal_of (source_in h table) (allocation_of t) (length args) (length cs) ≡ None) where
    alike : ∥ Alike by_source (allocated_run K E (source_in h table) (allocation_of t) budget (length l) args s cs) ∥₁
    alike =
        ∥∥₁_map st (λ x. runs_as_source K E (source_in h table) (allocation_of t) x.size x.sets x.fits (tables_located t) x.accepted budget (length l) args (right_many (source_in h table) (allocation_of t) (length args) (length cs) ok).0 s cs (right_many (source_in h table) (allocation_of t) (length args) (length cs) ok).1)

    same_outcome : by_source.outcome ≡ (allocated_run K E (source_in h table) (allocation_of t) budget (length l) args s cs).outcome
    same_outcome = ∥∥₁_elim alike (Coded-set (codedOutcome cv) _ _) (λ x. x.outcome)

    same_count : by_source.log.count ≡ (allocated_run K E (source_in h table) (allocation_of t) budget (length l) args s cs).log.count
    same_count = ∥∥₁_elim alike (Coded-set coded_ℕ _ _) (λ x. ap (λ (p : Log V S). p.count) x.log)

    same_transcript : by_source.log.transcript ≡ (allocated_run K E (source_in h table) (allocation_of t) budget (length l) args s cs).log.transcript
    same_transcript = ∥∥₁_elim alike (Coded-set (coded_list (codedEntry cv)) _ _) (λ x. ap (λ (p : Log V S). p.transcript) x.log)

    same_host : by_source.log.host ≡ (allocated_run K E (source_in h table) (allocation_of t) budget (length l) args s cs).log.host
    same_host = source_told K E s (source_in h table) budget (length l) args ∙ ap (tells K E s) same_transcript ∙ sym (allocated_told K E s (source_in h table) (allocation_of t) budget (length l) args cs)

    kept : (r : Report V) (s' : S) (cs' : List V) (l' : List (Entry V)) → Finished (allocated_run K E (source_in h table) (allocation_of t) budget (length l) args s cs) l r s' cs' l'
        → KeptPromise K E budget args s cs l (record { source = source_in h table; allocation = allocation_of t; placed = placed }) r s' l'
    kept r s' cs' l' f = record {
      as_source = record {
        outcome = f.outcome ∙ sym same_outcome;
        nodes = f.nodes ∙ sym same_count;
        entries = f.entries ∙ ap length (sym same_transcript);
        host = f.host ∙ sym same_host;
        list = f.list ∙ ap (λ ts. laid ts l) (sym same_transcript);
      };
      few = λ e. leb-true _ _ (∥∥₁_elim st (Bool-set _ _) (λ x. le-leb _ _ (omega (arith, f.moves, f.nodes, few_moves_a_node_lem K E (source_in h table) (allocation_of t) x.fits.lines (x.few e).entry (x.few e).line budget (length l) args s cs))));
    }

  pub run_standing : (r : Result (Report V) Refusal) (s' : S) (cs' : List V) (l' : List (Entry V)) → Answered K E (source_in h table) (allocation_of t) budget args s cs l r s' cs' l'
      → RunStanding K E budget args s cs l (record { source = source_in h table; allocation = allocation_of t; placed = placed }) r s' cs' l'
  run_standing (Ok r) s' cs' l' a = record { answered = a; promised = kept a.0 r s' cs' l' a.1 }
  run_standing (Err e) s' cs' l' a = record { answered = a; promised = tt }
