-- The loop of a run, turn by turn.
use Rattle.std.proofs.Common.{◌≡◌, ℕ, suc, ◌+◌, ◌-◌, ◌<◌, ◌≤◌, Bool, true, false, ◌&&◌, eqb, List, [], ◌++◌, length, take, drop, Some, sym, ap, ◌∙◌, ap₂, arith, cond, leb, None, refl}
use Rattle.std.specs.declared.ops.ControlFlow.{ControlFlow}
use Rattle.std.proofs.lemmas.List.{drop-drop, length-take-le, take-append-drop}
use Rattle.source.specs.Nodes.{action, node_at}
use Rattle.allocation.specs.declared.line.Move.{Move}
use Rattle.values.specs.Kinds.{Arithmetic}
use Rattle.values.specs.Hosts.{Answers}
use Rattle.machine.specs.declared.code.Code.{Code}
use Rattle.machine.specs.declared.outcome.Entry.{Entry}
use Rattle.machine.specs.declared.outcome.Outcome.{Outcome}
use Rattle.machine.specs.declared.running.Position.{Position}
use Rattle.machine.specs.declared.outcome.Report.{Report}
use Rattle.machine.specs.Machine.{asks, Log, Ending, Progress, Cells, after, drive, full, move_all, write_all, allocated_step, allocated_from, allocated_run}
use Rattle.machine.specs.Run.{code_source, code_allocation, laid, Finished, refusal_of}
use Rattle.machine.specs.Steps.{Standing, log_of, cells_of, InRange, Moved, Stepped, Ran}
use Rattle.machine.proofs.Rules.{drive_full, drive_step}
use Rattle.std.proofs.lemmas.Bool.{eqb-true, leb-true}
use Rattle.refusal.specs.declared.Refusal.TheVariants.{Arguments, Cells as FewCells}
use Rattle.source.specs.Reading.{Source}
use Rattle.allocation.specs.Allocations.{Allocation}

module _ {V S : Type 0} (K : Arithmetic V) (E : Answers S V) (code : Code) (budget : ℕ) (b : Standing V S) where
  abbrev from : ℕ → Standing V S → Ending V S (Cells V)
  from left s = allocated_from K E (code_source code) (code_allocation code) left (length b.list) (log_of s) (cells_of s)

  -- the run from where it began is the run from where it stands
  pub record Going (m : Standing V S) : Type 0 where
    pub same : allocated_from K E (code_source code) (code_allocation code) (budget - b.at.nodes) (length b.list) (log_of b) (cells_of b) ≡ allocated_from K E (code_source code) (code_allocation code) (budget - m.at.nodes) (length b.list) (log_of m) (cells_of m)
    pub rest : drop m.at.entries m.list ≡ drop m.at.entries b.list
    pub long : length m.list ≡ length b.list
    pub in_range : InRange code m

  module _ (m : Standing V S) (g : Going m) where
    abbrev step : Log V S → Cells V → Progress V S (Cells V)
    step = allocated_step K E (code_source code) (code_allocation code)

    abbrev filled : Log V S → Bool
    filled = full K E (code_source code) (length b.list)

    left : m.at.nodes < budget → budget - m.at.nodes ≡ suc (budget - (m.at.nodes + 1))
    left h = omega arith

    abbrev asked : Bool
    asked = asks (Some (action (node_at code.nodes.now m.at.node))) && eqb m.at.entries (length m.list)

    full_is : filled (log_of m) ≡ asked
    full_is = ap₂ (λ k n. asks (Some (action (node_at code.nodes.now m.at.node))) && eqb k n) (length-take-le m.at.entries m.list g.in_range.entries) (sym g.long)

    pub fulfilled : m.at.nodes < budget → asked ≡ true → Ran K E code budget b Outcome.Full m
    fulfilled h e = record {
      ending = g.same ∙ ap (λ n. from n m) (left h) ∙ drive_full filled step (budget - (m.at.nodes + 1)) (log_of m) (cells_of m) (full_is ∙ e);
      entries = g.in_range.entries;
      rest = g.rest;
    }

    -- the run from here, by the node that is passed
    onward : m.at.nodes < budget → asked ≡ false → (p : Progress V S (Cells V)) → step (log_of m) (cells_of m) ≡ p → from (budget - b.at.nodes) b ≡ after p (λ q w. drive filled step (budget - (m.at.nodes + 1)) q w)
    onward h f p s =
        g.same ∙ ap (λ n. from n m) (left h) ∙ drive_step filled step (budget - (m.at.nodes + 1)) (log_of m) (cells_of m) (full_is ∙ f) ∙ ap (λ t. after t (λ q w. drive filled step (budget - (m.at.nodes + 1)) q w)) s

    more_rest : (n : ℕ) (l : List (Entry V)) → m.at.entries ≤ n → drop n l ≡ drop n m.list → drop n l ≡ drop n b.list
    more_rest n l h e = e ∙ split m.list ∙ ap (drop (n - m.at.entries)) g.rest ∙ sym (split b.list)
      where
        split : (xs : List (Entry V)) → drop n xs ≡ drop (n - m.at.entries) (drop m.at.entries xs)
        split xs = ap (λ k. drop k xs) {y = m.at.entries + (n - m.at.entries)} (omega arith) ∙ sym (drop-drop (n - m.at.entries) m.at.entries xs)

    module _ (h : m.at.nodes < budget) (f : asked ≡ false) (a : Standing V S) where
      pub ended : (v : V) → Stepped K E code m (ControlFlow.Break v) a → Ran K E code budget b (Outcome.Ended v) a
      ended v s = record {
        ending = onward h f _ s.step;
        entries = s.in_range.entries;
        rest = more_rest a.at.entries a.list s.grows s.rest;
      }

      pub went : Stepped K E code m (ControlFlow.Continue tt) a → Going a
      went s = record {
        same = onward h f _ s.step ∙ ap (λ n. from n a) (ap (λ n. budget - n) (sym s.nodes));
        rest = more_rest a.at.entries a.list s.grows s.rest;
        long = s.long ∙ g.long;
        in_range = s.in_range;
      }

-- a run that no question refuses has cells enough
pub granted : (s : Source) (a : Allocation) (args cells : ℕ) → None ≡ refusal_of s a args cells → (args ≡ s.parameters) × (a.registers + a.slots ≤ cells)
granted s a args cells e = go (eqb args s.parameters) (leb (a.registers + a.slots) cells) refl refl e
  where
    go : (b c : Bool) → eqb args s.parameters ≡ b → leb (a.registers + a.slots) cells ≡ c → None ≡ cond b (cond c None (Some FewCells)) (Some Arguments) → (args ≡ s.parameters) × (a.registers + a.slots ≤ cells)
    go true true p q w = (eqb-true args s.parameters p, leb-true (a.registers + a.slots) cells q)
    go true false p q w = let z : ◌≡◌ {A = ℕ} 0 1 = cc in absurd (omega arith)
    go false c p q w = let z : ◌≡◌ {A = ℕ} 0 1 = cc in absurd (omega arith)

-- a run from its start
module _ {V S : Type 0} (K : Arithmetic V) (E : Answers S V) (code : Code) (budget : ℕ) (args : List V) (cs : List V) (entry : List Move) (b m : Standing V S) (r : Outcome V) (a : Standing V S) where
  begun : b.at ≡ record { node = 0; nodes = 0; moves = 0; entries = 0 } → b.cells ≡ write_all code.locations.registers args cs → entry ≡ take code.entry code.moves.now → Moved K entry b m → Ran K E code budget m r a → allocated_run K E (code_source code) (code_allocation code) budget (length b.list) args b.host cs ≡ record { outcome = r; log = log_of a; memory = cells_of a }
  begun z c e moved ran =
      let at : m.at ≡ record { node = 0; nodes = 0; moves = 0 + length entry; entries = 0 } = moved.at ∙ ap (λ (p : Position). record p { moves = p.moves + length entry }) z in
      let log : ◌≡◌ {A = Log V S} (record { node = 0; count = 0; transcript = []; host = b.host }) (log_of m) = λ i. record { node = ap (λ p. p.node) (sym at) i; count = ap (λ p. p.nodes) (sym at) i; transcript = ap (λ (p : Position). take p.entries m.list) (sym at) i; host = sym moved.host i } in
      let cells : move_all K (take code.entry code.moves.now) (record { cells = write_all code.locations.registers args cs; moves = 0 }) ≡ cells_of m = ap₂ (λ ms (c : Cells V). move_all K ms c) (sym e) (λ i. record { cells = sym c i; moves = ap (λ p. p.moves) (sym z) i }) ∙ moved.cells in
      ap₂ (λ (p : Log V S) (q : Cells V). allocated_from K E (code_source code) (code_allocation code) budget (length b.list) p q) log cells
      ∙ ap₂ (λ (n k : ℕ). allocated_from K E (code_source code) (code_allocation code) n k (log_of m) (cells_of m)) {y = budget - m.at.nodes} (omega (arith, ap (λ p. p.nodes) at)) (ap length (sym moved.list)) ∙ ran.ending

  pub finished : b.at ≡ record { node = 0; nodes = 0; moves = 0; entries = 0 } → b.cells ≡ write_all code.locations.registers args cs → entry ≡ take code.entry code.moves.now → Moved K entry b m → Ran K E code budget m r a → (report : Report V) → report ≡ record { outcome = r; nodes = a.at.nodes; moves = a.at.moves; entries = a.at.entries } → (h : S) (cs' : List V) (l : List (Entry V)) → h ≡ a.host → cs' ≡ a.cells → l ≡ a.list → Finished (allocated_run K E (code_source code) (code_allocation code) budget (length b.list) args b.host cs) b.list report h cs' l
  finished z c e moved ran report is h cs' l h-is cells-is list-is =
      let end = begun z c e moved ran in
      let long : length (take a.at.entries a.list) ≡ a.at.entries = length-take-le a.at.entries a.list ran.entries in
      record {
        outcome = ap (λ x. x.outcome) is ∙ ap (λ x. x.outcome) (sym end);
        nodes = ap (λ x. x.nodes) is ∙ ap (λ x. x.log.count) (sym end);
        moves = ap (λ x. x.moves) is ∙ ap (λ x. x.memory.moves) (sym end);
        entries = ap (λ x. x.entries) is ∙ sym long ∙ ap (λ x. length x.log.transcript) (sym end);
        host = h-is ∙ ap (λ x. x.log.host) (sym end);
        cells = cells-is ∙ ap (λ x. x.memory.cells) (sym end);
        list = list-is ∙ sym (take-append-drop a.at.entries a.list) ∙ ap (λ t. take a.at.entries a.list ++ t) (ran.rest ∙ ap (drop a.at.entries) moved.list ∙ ap (λ k. drop k b.list) (sym long)) ∙ ap (λ x. laid x.log.transcript b.list) (sym end);
      }
