use Rattle.std.proofs.Common.{◌≡◌, ◌*◌, ◌≤◌, List, length, take, refl, sym, ap, ◌∙◌, subst, subst₂, arith, rules}
use lib.ListN.{length-map}
use Rattle.std.proofs.lemmas.Result.{MatchResult-at_ok, err_from_is_err_and}
use Rattle.source.specs.Nodes.{AllSound}
use Rattle.source.specs.Tables.{nodes_in, source_in}
use Rattle.allocation.specs.Allocations.{line_at, rows_in, moves_in, allocation_of}
use Rattle.allocation.specs.Ranges.{RowsFit, MovesFit}
use Rattle.allocation.specs.declared.heading.Heading.{Heading}
use Rattle.allocation.specs.declared.line.Move.{Move}
use Rattle.allocation.specs.declared.line.Row.{Row}
use Rattle.equations.specs.Questions.{foreign_question}
use Rattle.verdict.proofs.Verdicts.{all_wider, view, entry_is, entry_fits, mismatched, left, accepted, refused}
use Rattle.verdict.proofs.check.check.Goals as goal

pub invariant_of-candidate : goal.invariant_of-candidate
invariant_of-candidate c =
    let t = c.args.tables.now in
    let h = c.heading.ensures in
    let registers : c.heading.result.registers ≡ t.heading.registers = ap (λ (x : Heading). x.registers) h in
    let slots : c.heading.result.slots ≡ t.heading.slots = ap (λ (x : Heading). x.slots) h in
    record {
      few = omega (arith, t.few_registers, t.few_slots);
      arrive = omega (arith, c.requires.slots);
      sound = subst (AllSound 64) (sym c.nodes-nodes.ensures) (all_wider c.args.heading.temporaries 64 (nodes_in c.args.source.now) (omega (arith, c.requires.few)) c.requires.sound);
      long = ap length c.rows.ensures ∙ sym (length-map (rows_in t) (line_at (moves_in t))) ∙ c.requires.lines ∙ ap length (sym c.nodes-nodes.ensures);
      entry_fits = subst (λ (x : Heading). MovesFit x.registers x.slots (take c.count_entry.result c.moves-moves.result.now)) (sym h)
          (entry_fits c.args.heading c.args.source.now t _ _ _ c.nodes-nodes.ensures c.rows.ensures c.moves-moves.ensures c.count_entry.result c.count_entry.ensures);
      rows_fit = subst (λ (x : Heading). RowsFit x.registers (length c.moves-moves.result.now) c.rows.result.now) (sym h)
          (subst₂ (λ (rs : List Row) (ms : List Move). RowsFit t.heading.registers (length ms) rs) (sym c.rows.ensures) (sym c.moves-moves.ensures) t.rows_fit);
      moves_fit = subst (λ (x : Heading). MovesFit x.registers x.slots c.moves-moves.result.now) (sym h)
          (subst (MovesFit t.heading.registers t.heading.slots) (sym c.moves-moves.ensures) t.moves_fit);
    }

pub returns-in-Some : goal.returns-in-Some
returns-in-Some c =
    let v = view c.args.heading c.args.source.now c.args.tables.now _ _ _ c.nodes-nodes.ensures c.rows.ensures c.moves-moves.ensures in
    let words = c.args.memory.now in
    let both = mismatched (source_in c.args.heading c.args.source.now) (allocation_of c.args.tables.now) _ _ _ v words words c.in-Some.node (omega arith) c.in-Some.ensures refl in
    record { verdict = both.0; count = tt; memory = both.1 }

pub returns-in_err-ask_all : goal.returns-in_err-ask_all
returns-in_err-ask_all c =
    let t = c.args.tables.now in
    let v = view c.args.heading c.args.source.now t _ _ _ c.nodes-nodes.ensures c.rows.ensures c.moves-moves.ensures in
    let s = source_in c.args.heading c.args.source.now in
    let room : 64 * length c.nodes-nodes.result.now ≤ length c.args.memory.now = omega arith in
    let p = err_from_is_err_and c.from_residual.result c.from_residual.ensures.1 in
    record {
      verdict = rw (p.1, p.2) (refused s (allocation_of t) _ _ _ v c.args.memory.now c.solve.new.memory room c.in_default.ensures c.solve.ensures.least
          (take c.count_entry.result c.moves-moves.result.now) (foreign_question c.heading.result.registers c.args.heading.parameters)
          (entry_is c.args.heading c.args.source.now t _ _ _ c.nodes-nodes.ensures c.rows.ensures c.moves-moves.ensures c.count_entry.result c.count_entry.ensures)
          (ap (λ (h : Heading). foreign_question h.registers c.args.heading.parameters) c.heading.ensures) _ c.in_err-ask_all.ensures);
      count = rw p.1 tt;
      memory = left s (allocation_of t) _ _ _ v c.args.memory.now c.solve.new.memory room c.in_default.ensures c.solve.ensures.least c.solve.ensures.others;
    }

pub returns : goal.returns
returns c =
    let t = c.args.tables.now in
    let v = view c.args.heading c.args.source.now t _ _ _ c.nodes-nodes.ensures c.rows.ensures c.moves-moves.ensures in
    let s = source_in c.args.heading c.args.source.now in
    let room : 64 * length c.nodes-nodes.result.now ≤ length c.args.memory.now = omega arith in
    record {
      verdict = accepted s (allocation_of t) _ _ _ v c.args.memory.now c.solve.new.memory room c.in_default.ensures c.solve.ensures.least
          (take c.count_entry.result c.moves-moves.result.now) (foreign_question c.heading.result.registers c.args.heading.parameters)
          (entry_is c.args.heading c.args.source.now t _ _ _ c.nodes-nodes.ensures c.rows.ensures c.moves-moves.ensures c.count_entry.result c.count_entry.ensures)
          (ap (λ (h : Heading). foreign_question h.registers c.args.heading.parameters) c.heading.ensures) (MatchResult-at_ok _ _ _ c.in_ok-ask_all.was c.ask_all.ensures);
      count = search rules;
      memory = left s (allocation_of t) _ _ _ v c.args.memory.now c.solve.new.memory room c.in_default.ensures c.solve.ensures.least c.solve.ensures.others;
    }
