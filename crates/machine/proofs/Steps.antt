-- One node passed by the code is one step of the allocated machine.
use Rattle.std.proofs.Common.{◌≡◌, ℕ, suc, ◌+◌, ◌<◌, ◌≤◌, Bool, true, List, [], ◌∷◌, ◌++◌, length, take, drop, set, Some, None, Option, sym, refl, ap, ◌∙◌, ap₂, append_assoc, append-nil, arith, length-set}
use Rattle.std.specs.List.{between}
use Rattle.std.proofs.lemmas.List.{take_more_set, drop-set-lt}
use Rattle.source.specs.Nodes.{action, sound, node_at, successor}
use Rattle.source.specs.declared.node.Node.{Node}
use Rattle.allocation.specs.Allocations.{Line, line_at, target}
use Rattle.allocation.specs.Ranges.{row_at}
use Rattle.allocation.specs.declared.line.Move.{Move}
use Rattle.allocation.specs.declared.line.Main.{Main}
use Rattle.allocation.specs.declared.line.Row.{Row}
use Rattle.values.specs.Kinds.{Arithmetic}
use Rattle.values.specs.Hosts.{Answers}
use Rattle.machine.specs.declared.code.Code.{Code}
use Rattle.machine.specs.declared.outcome.Entry.{Entry}
use Rattle.std.specs.declared.ops.ControlFlow.{ControlFlow}
use Rattle.allocation.specs.Lines.{main_action, edge_moves, line_of}
use Rattle.machine.specs.Machine.{asks, Log, Progress, goes, ends, Cells, Effect, carried, carry_line, store, write_all, move_all, allocated_step}
use Rattle.machine.specs.Run.{code_source, code_allocation}
use Rattle.machine.specs.Steps.{Standing, log_of, cells_of, InRange, main_effect, Moved, Done, Stepped}
use Rattle.machine.proofs.Ranges.{RowFit, row_here, sound_next, line_is, part_length, edge_length}

module _ {A : Type 0} where
  take-write_all : (r : ℕ) (xs c : List A) → r + length xs ≤ length c → take (r + length xs) (write_all r xs c) ≡ take r c ++ xs
  take-write_all r [] c h = ap (λ n. take n c) {y = r} (omega arith) ∙ sym (append-nil (take r c))
  take-write_all r (x ∷ xs) c h =
      ap (λ n. take n (write_all (suc r) xs (set c r x))) {y = suc r + length xs} (omega arith) ∙ take-write_all (suc r) xs (set c r x) (rw (length-set c r x) (omega arith)) ∙ ap (λ t. t ++ xs) (ap (λ n. take n (set c r x)) {x = suc r} {y = r + 1} (omega arith) ∙ take_more_set c r x (omega arith)) ∙ append_assoc (take r c) (x ∷ []) xs

  drop-write_all : (r : ℕ) (xs c : List A) → drop (r + length xs) (write_all r xs c) ≡ drop (r + length xs) c
  drop-write_all r [] c = refl
  drop-write_all r (x ∷ xs) c =
      ap (λ n. drop n (write_all (suc r) xs (set c r x))) {y = suc r + length xs} (omega arith) ∙ drop-write_all (suc r) xs (set c r x) ∙ drop-set-lt (suc r + length xs) c r x (omega arith) ∙ ap (λ n. drop n c) {x = suc r + length xs} (omega arith)

  length-write_all : (r : ℕ) (xs c : List A) → length (write_all r xs c) ≡ length c
  length-write_all r [] c = refl
  length-write_all r (x ∷ xs) c = length-write_all (suc r) xs (set c r x) ∙ length-set c r x

length-store : {V : Type 0} (t : Option ℕ) (x : V) (cs : List V) → length (store t x cs) ≡ length cs
length-store None x cs = refl
length-store (Some l) x cs = length-set cs l x

log_is : {V S : Type 0} (s : Standing V S) (n k : ℕ) (t : List (Entry V)) (h : S) → n ≡ s.at.node → k ≡ s.at.nodes → t ≡ take s.at.entries s.list → h ≡ s.host → ◌≡◌ {A = Log V S} (record { node = n; count = k; transcript = t; host = h }) (log_of s)
log_is s n k t h a b c d = λ i. record { node = a i; count = b i; transcript = c i; host = d i }

cells_is : {V S : Type 0} (s : Standing V S) (cs : List V) (k : ℕ) → cs ≡ s.cells → k ≡ s.at.moves → ◌≡◌ {A = Cells V} (record { cells = cs; moves = k }) (cells_of s)
cells_is s cs k a b = λ i. record { cells = a i; moves = b i }

module _ {V S : Type 0} (K : Arithmetic V) (E : Answers S V) where
  -- a main line that ends a run has no result location
  end_unset : (m : Main) (cs : List V) (h : S) (v : V) → ControlFlow.Break v ≡ (main_effect K E m cs h).taken → target m ≡ None
  end_unset Main.Skip cs h v e = refl
  end_unset (Main.Const l k) cs h v e = cc
  end_unset (Main.Binary o l a b) cs h v e = cc
  end_unset (Main.Call l f a b) cs h v e = cc
  end_unset (Main.Branch c a b) cs h v e = refl
  end_unset (Main.Return a) cs h v e = refl

  pub done_wide : (m : Main) (b a : Standing V S) (t : ControlFlow V Bool) → Done K E m b t a → length a.cells ≡ length b.cells
  done_wide m b a t d = ap length d.cells ∙ length-store (target m) (main_effect K E m b.cells b.host).value b.cells

  -- only a call writes an entry
  told_room : (m : Main) (cs : List V) (h : S) (n k : ℕ) → n ≤ k → (asks (main_action m) ≡ true → n < k) → n + length (main_effect K E m cs h).told ≤ k
  told_room Main.Skip cs h n k l r = omega arith
  told_room (Main.Const t i) cs h n k l r = omega arith
  told_room (Main.Binary o t a b) cs h n k l r = omega arith
  told_room (Main.Call t f a b) cs h n k l r = omega (arith, r refl)
  told_room (Main.Branch c a b) cs h n k l r = omega arith
  told_room (Main.Return a) cs h n k l r = omega arith

  -- a node, from where the run stands (b): its `in` moves (m), and its main line, after which d is held
  module _ (code : Code) (b m : Standing V S) (n : Node) (ins : List Move)
      (n-is : n ≡ node_at code.nodes.now b.at.node)
      (ins-is : ins ≡ between (row_at code.rows.now b.at.node).ins (row_at code.rows.now b.at.node).outs code.moves.now)
      (moved : Moved K ins b m)
      (same-wide : length m.cells ≡ length b.cells)
      (range : InRange code b)
      (asked : asks (Some (action n)) ≡ true → b.at.entries < length b.list) where
    abbrev row : Row
    row = row_at code.rows.now b.at.node

    fit : RowFit code.locations.registers (length code.moves.now) row
    fit = row_here code b.at.node range.runnable range.node

    room : asks (main_action row.main) ≡ true → b.at.entries < length b.list
    room e = asked (ap (λ (k : Node). asks (Some (action k))) n-is ∙ range.runnable.asking b.at.node (omega (arith, range.runnable.long, range.node)) e)

    abbrev line : Line
    line = line_at code.moves.now row

    abbrev x : Effect V S
    x = main_effect K E row.main m.cells m.host

    abbrev counted : Standing V S
    counted = record m { at = record m.at { nodes = m.at.nodes + 1 } }

    abbrev then_moves : Bool → Cells V
    then_moves e = move_all K (edge_moves line e) (record { cells = store (target row.main) x.value m.cells; moves = m.at.moves })

    -- the step, by what the main line comes to
    settled : allocated_step K E (code_source code) (code_allocation code) (log_of b) (cells_of b) ≡ carried n x.taken x.told x.host (log_of b) (cells_of m) then_moves
    settled =
        let there : line_of (code_allocation code) b.at.node ≡ line = line_is code.moves.now code.rows.now b.at.node in
        ap₂ {C = Progress V S (Cells V)} (λ k l. carry_line K E k l (log_of b) (move_all K l.ins (cells_of b))) (sym n-is) there
        ∙ ap (carry_line K E n line (log_of b)) (ap (λ ms. move_all K ms (cells_of b)) (sym ins-is) ∙ moved.cells)
        ∙ ap (λ h. let y = main_effect K E row.main m.cells h in carried n y.taken y.told y.host (log_of b) (cells_of m) (λ e. move_all K (edge_moves line e) (record { cells = store (target row.main) y.value m.cells; moves = m.at.moves }))) (sym moved.host)

    ins_few : length ins ≤ length code.moves.now
    ins_few = part_length code.moves.now ins row.ins row.outs ins-is (omega (arith, fit.outs, fit.alts, fit.end))

    within : b.at.entries + length x.told ≤ length b.list
    within = told_room row.main m.cells m.host b.at.entries (length b.list) range.entries room

    module _ (d : Standing V S) (t : ControlFlow V Bool) (done : Done K E row.main counted t d) where
      stands : d.at ≡ record { node = b.at.node; nodes = b.at.nodes + 1; moves = b.at.moves + length ins; entries = b.at.entries + length x.told }
      stands = done.at ∙ ap (λ p. record { node = p.node; nodes = p.nodes + 1; moves = p.moves; entries = p.entries + length x.told }) moved.at

      list_is : d.list ≡ write_all b.at.entries x.told b.list
      list_is = done.list ∙ ap₂ (λ (k : ℕ) (l : List (Entry V)). write_all k x.told l) (ap (λ p. p.entries) moved.at) moved.list

      listed : take d.at.entries d.list ≡ take b.at.entries b.list ++ x.told
      listed = ap₂ take (ap (λ p. p.entries) stands) list_is ∙ take-write_all b.at.entries x.told b.list within

      rested : drop d.at.entries d.list ≡ drop d.at.entries b.list
      rested = ap₂ drop (ap (λ p. p.entries) stands) list_is ∙ drop-write_all b.at.entries x.told b.list ∙ ap (λ k. drop k b.list) (ap (λ p. p.entries) (sym stands))

      long : length d.list ≡ length b.list
      long = ap length list_is ∙ length-write_all b.at.entries x.told b.list

      taken_step : allocated_step K E (code_source code) (code_allocation code) (log_of b) (cells_of b) ≡ carried n t x.told x.host (log_of b) (cells_of m) then_moves
      taken_step = settled ∙ ap (λ u. carried n u x.told x.host (log_of b) (cells_of m) then_moves) (sym done.taken)

      wide : length d.cells ≡ length b.cells
      wide = done_wide row.main counted d t done ∙ same-wide

      after_line : InRange code d
      after_line =
          let at = stands in
          let node : d.at.node ≡ b.at.node = ap (λ p. p.node) at in
          let nodes : d.at.nodes ≡ b.at.nodes + 1 = ap (λ p. p.nodes) at in
          let moves : d.at.moves ≡ b.at.moves + length ins = ap (λ p. p.moves) at in
          let entries : d.at.entries ≡ b.at.entries + length x.told = ap (λ p. p.entries) at in
          let few : length code.moves.now ≤ 1024 = range.runnable.few in
          record {
            runnable = range.runnable;
            node = omega (arith, range.node, node);
            moves = omega (arith, range.moves, nodes, moves, ins_few, few);
            entries = omega (arith, entries, within, long);
            cells = omega (arith, range.cells, wide);
          }

    pub stepped_end : (v : V) (d : Standing V S) → Done K E row.main counted (ControlFlow.Break v) d → Stepped K E code b (ControlFlow.Break v) d
    stepped_end v d done =
        let t : ControlFlow V Bool = ControlFlow.Break v in
        let at = stands d t done in
        record {
          step = taken_step d t done ∙ ap₂ {C = Progress V S (Cells V)} (ends v) (log_is d b.at.node (b.at.nodes + 1) (take b.at.entries b.list ++ x.told) x.host (ap (λ p. p.node) (sym at)) (ap (λ p. p.nodes) (sym at)) (sym (listed d t done)) (sym done.host)) (cells_is d m.cells m.at.moves (sym (done.cells ∙ ap (λ l. store l x.value m.cells) (end_unset row.main m.cells m.host v done.taken))) (ap (λ p. p.moves) (sym done.at)));
          nodes = ap (λ p. p.nodes) at;
          grows = omega (arith, ap (λ p. p.entries) at);
          rest = rested d t done;
          long = long d t done;
          in_range = after_line d t done;
        }

    pub stepped_edge : (e : Bool) (d : Standing V S) → Done K E row.main counted (ControlFlow.Continue e) d → (outs : List Move) (o : Standing V S) → outs ≡ edge_moves line e → Moved K outs d o → length o.cells ≡ length d.cells → (next : ℕ) → next ≡ successor n e → Stepped K E code b (ControlFlow.Continue tt) (record o { at = record o.at { node = next } })
    stepped_edge e d done outs o outs-is out w next to =
        let t : ControlFlow V Bool = ControlFlow.Continue e in
        let a : Standing V S = record o { at = record o.at { node = next } } in
        let at = stands d t done in
        let nodes : o.at.nodes ≡ b.at.nodes + 1 = ap (λ p. p.nodes) out.at ∙ ap (λ p. p.nodes) at in
        let moves : o.at.moves ≡ d.at.moves + length outs = ap (λ p. p.moves) out.at in
        let entries : o.at.entries ≡ d.at.entries = ap (λ p. p.entries) out.at in
        let same : then_moves e ≡ cells_of o = ap₂ (λ ms c. move_all K ms c) (sym outs-is) (cells_is d (store (target row.main) x.value m.cells) m.at.moves (sym done.cells) (ap (λ p. p.moves) (sym done.at))) ∙ out.cells in
        let few : length outs ≤ length code.moves.now = edge_length code.locations.registers code.moves.now outs row e outs-is fit in
        let r = after_line d t done in
        let there : successor n e < length code.nodes.now = sound_next code.source.temporaries (length code.nodes.now) n e range.runnable.some (ap (sound code.source.temporaries (length code.nodes.now)) n-is ∙ range.runnable.sound b.at.node range.node) in
        record {
          step = taken_step d t done ∙ ap₂ {C = Progress V S (Cells V)} goes (log_is a (successor n e) (b.at.nodes + 1) (take b.at.entries b.list ++ x.told) x.host (sym to) (sym nodes) (sym (listed d t done) ∙ ap₂ (λ (k : ℕ) (l : List (Entry V)). take k l) (sym entries) (sym out.list)) (sym done.host ∙ sym out.host)) same;
          nodes = nodes;
          grows = omega (arith, entries, ap (λ p. p.entries) at);
          rest = ap₂ (λ (k : ℕ) (l : List (Entry V)). drop k l) entries out.list ∙ rested d t done ∙ ap (λ k. drop k b.list) (sym entries);
          long = ap length out.list ∙ long d t done;
          in_range = record {
            runnable = range.runnable;
            node = omega (arith, to, there);
            moves = omega (arith, range.moves, nodes, moves, ap (λ p. p.moves) at, ins_few, few, range.runnable.few);
            entries = omega (arith, entries, r.entries, ap length out.list);
            cells = omega (arith, r.cells, w);
          };
        }
