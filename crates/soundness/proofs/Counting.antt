-- How many moves a run makes.
use Rattle.std.proofs.Common.{◌≡◌, ℕ, zero, suc, ◌+◌, ◌*◌, ◌<◌, ◌≤◌, Bool, true, false, List, [], ◌∷◌, map, length, sym, refl, ◌∙◌, subst, ⊎_elim, arith}
use Rattle.std.proofs.lemmas.List.{get_or_past}
use Rattle.std.proofs.lemmas.Bool.{cases_Bool, cases_lt}
use Rattle.source.specs.Nodes.{node_at}
use Rattle.source.specs.Reading.{Source}
use Rattle.source.specs.declared.node.Node.{Node}
use Rattle.allocation.specs.Allocations.{Line, Allocation, target, origins}
use Rattle.allocation.specs.Lines.{main_action, edge_moves, line_of, arrival, line_moves}
use Rattle.allocation.specs.declared.line.Move.{Move}
use Rattle.allocation.specs.declared.line.Main.TheVariants.{Skip}
use Rattle.values.specs.Kinds.{Arithmetic}
use Rattle.values.specs.Hosts.{Answers}
use Rattle.machine.specs.declared.outcome.Entry.{Entry}
use Rattle.std.specs.declared.ops.ControlFlow.{ControlFlow}
use Rattle.machine.specs.Machine.{Log, Ending, after, carried, Cells, Effect, effect, read, store, write_all, move_one, move_all, full, start, allocated_step, allocated_from, entered}
use Rattle.machine.proofs.Rules.{drive_full, drive_step}
use Rattle.soundness.specs.Law.{FewMade, FewMovesANode}

count_moves_lem : {V : Type 0} (K : Arithmetic V) (ms : List Move) (c : Cells V) → (move_all K ms c).moves ≡ c.moves + length ms
count_moves_lem K [] c = omega arith
count_moves_lem K (m ∷ ms) c = count_moves_lem K ms (move_one K m c) ∙ omega arith

edge_few : (l : Line) (e : Bool) → length l.ins + length (edge_moves l e) ≤ line_moves l
edge_few l true = omega arith
edge_few l false = omega arith

-- a line that is not there has no moves
line_few : (s : Source) (a : Allocation) → length a.lines ≡ length s.nodes → ((n : ℕ) → n < length s.nodes → line_moves (line_of a n) ≤ 3) → (n : ℕ) → line_moves (line_of a n) ≤ 3
line_few s a same few n =
    ⊎_elim (λ h. few n (omega arith)) (λ h. subst (λ (l : Line). line_moves l ≤ 3) (sym (get_or_past a.lines n (record { ins = []; main = Skip; outs = []; alts = [] }) h)) (omega arith)) (cases_lt n (length a.lines))

module _ {V S : Type 0} (K : Arithmetic V) (E : Answers S V) where
  carried_few : (n : Node) (t : ControlFlow V Bool) (ts : List (Entry V)) (h : S) (p : Log V S) (c : Cells V) (F : Bool → Cells V) (on : Log V S → Cells V → Ending V S (Cells V)) → c.moves ≤ 8 + 3 * (p.count + 1) → ((e : Bool) (q : Log V S) → q.count ≡ p.count + 1 → FewMade (on q (F e))) → FewMade (after (carried n t ts h p c F) on)
  carried_few n (ControlFlow.Continue e) ts h p c F on few more = more e _ refl
  carried_few n (ControlFlow.Break v) ts h p c F on few more = few

  module _ (s : Source) (a : Allocation) (same : length a.lines ≡ length s.nodes) (few : (n : ℕ) → n < length s.nodes → line_moves (line_of a n) ≤ 3) (room : ℕ) where
    few_from : (left : ℕ) (p : Log V S) (c : Cells V) → c.moves ≤ 8 + 3 * p.count → FewMade (allocated_from K E s a left room p c)
    few_from zero p c h = h
    few_from (suc left) p c h =
        ⊎_elim (λ e. subst (λ (x : Ending V S (Cells V)). FewMade x) (sym (drive_full (full K E s room) (allocated_step K E s a) left p c e)) h) (λ e. subst (λ (x : Ending V S (Cells V)). FewMade x) (sym (drive_step (full K E s room) (allocated_step K E s a) left p c e)) (carried_few (node_at s.nodes p.node) x.taken x.told x.host p g (λ b. move_all K (edge_moves l b) (record { cells = set_main_lem; moves = g.moves })) (λ q w. allocated_from K E s a left room q w) (omega (arith, ins, line, edge_few l true)) (λ b q at. few_from left q (move_all K (edge_moves l b) (record { cells = set_main_lem; moves = g.moves })) (omega (arith, at, ins, line, edge_few l b, count_moves_lem K (edge_moves l b) (record { cells = set_main_lem; moves = g.moves })))))) (cases_Bool (full K E s room p))
      where
        l : Line
        l = line_of a p.node

        g : Cells V
        g = move_all K l.ins c

        x : Effect V S
        x = effect K E (main_action l.main) (map (read K g.cells) (origins l.main)) p.host

        set_main_lem : List V
        set_main_lem = store (target l.main) x.value g.cells

        ins : g.moves ≡ c.moves + length l.ins
        ins = count_moves_lem K l.ins c

        line : line_moves l ≤ 3
        line = line_few s a same few p.node

pub few_moves_a_node_lem : {V S : Type 0} (K : Arithmetic V) (E : Answers S V) → FewMovesANode K E
few_moves_a_node_lem K E s a same entry few budget room args h cells =
    few_from K E s a same few room budget (start K E s 0 h) (entered K E s a args cells) (omega (arith, count_moves_lem K a.entry (record { cells = write_all (arrival a) args cells; moves = 0 }), entry))
