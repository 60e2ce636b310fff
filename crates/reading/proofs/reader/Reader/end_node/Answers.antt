use Rattle.std.proofs.Common.{◌≡◌, ◌+◌, ◌≤◌, length, sym, ap, ◌∙◌, arith}
use Rattle.allocation.specs.Allocations.{rows_in, moves_in}
use Rattle.reading.proofs.Views.{view, state_is, opened-held, line_is}
use Rattle.std.proofs.lemmas.List.{length_push}
use Rattle.allocation.specs.Ranges.{row_fits}
use Rattle.allocation.proofs.Pushes.{row_longer}
use Rattle.reading.specs.Reading.{opened}
use Rattle.reading.proofs.reader.Reader.end_node.Goals as goal

pub invariant_of-self : goal.invariant_of-self
invariant_of-self c =
    let r = c.args.self.now in
    let e = c.push_row.ensures in
    let rows : length (rows_in c.push_row.new.self) ≡ length (rows_in r.tables) + 1 = ap length e.rows ∙ length_push _ _ in
    let moves : length (moves_in c.push_row.new.self) ≡ length (moves_in r.tables) = ap length e.moves in
    let longer : length (moves_in r.tables) ≤ length (moves_in c.push_row.new.self) = omega arith in
    record { fits = ap (λ h. row_fits h.registers (length (moves_in c.push_row.new.self)) r.row) e.heading ∙ row_longer r.tables.heading.registers _ _ r.row longer r.fits; row_left = omega arith }

pub returns : goal.returns
returns c =
    let r = c.args.self.now in
    let t = r.tables in
    let s = c.begin_node.new.self in
    let same = c.begin_node.ensures.tables in
    let e = c.push_row.ensures in
    state_is s
    ∙ (λ j. view (record {
      heading = (ap (λ x. x.heading) same ∙ e.heading) j;
      stage = c.begin_node.ensures.stage j;
      entry = (ap (λ x. x.entry) same ∙ e.entry) j;
      moves = (ap moves_in same ∙ e.moves) j;
      rows = (ap rows_in same ∙ e.rows) j;
      row = s.row;
    }))
    ∙ opened-held t.heading t.entry (moves_in t) (rows_in t) r.stage r.row s.row c.row-row.result c.requires (c.begin_node.ensures.ins ∙ ap length e.moves) (line_is r c.row-row.result c.row-row.ensures.line)
    ∙ ap opened (sym (state_is r))
