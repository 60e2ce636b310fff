use Rattle.std.proofs.Common.{length, sym, ap, ◌∙◌}
use Rattle.allocation.specs.Allocations.{rows_in, moves_in}
use Rattle.reading.proofs.Views.{view, state_is, staged, opened_start}
use Rattle.reading.specs.Reading.{opened}
use Rattle.reading.specs.declared.stage.Stage.TheVariants.{Start}
use Rattle.reading.proofs.reader.Reader.end_entry.Goals as goal

pub returns : goal.returns
returns c =
    let r = c.args.self.now in
    let t = r.tables in
    let s = c.begin_node.new.self in
    let same = c.begin_node.ensures.tables in
    let e = c.end_entry.ensures in
    state_is s
    ∙ (λ j. view (record {
      heading = (ap (λ x. x.heading) same ∙ e.heading) j;
      stage = c.begin_node.ensures.stage j;
      entry = (ap (λ x. x.entry) same ∙ e.entry) j;
      moves = (ap moves_in same ∙ e.moves) j;
      rows = (ap rows_in same ∙ e.rows) j;
      row = s.row;
    }))
    ∙ opened_start t.heading t.entry (moves_in t) (rows_in t) r.row s.row (c.begin_node.ensures.ins ∙ ap length e.moves)
    ∙ ap opened (sym (staged r Start c.requires))
