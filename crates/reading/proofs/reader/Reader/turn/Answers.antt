use Rattle.std.proofs.Common.{sym, refl, ap, ◌∙◌}
use Rattle.allocation.specs.Allocations.{rows_in, moves_in}
use Rattle.reading.proofs.Views.{view, state_is, staged, turned_branch}
use Rattle.reading.specs.Reading.{turned}
use Rattle.reading.specs.declared.stage.Stage.TheVariants.{Branch, Alternate}
use Rattle.reading.proofs.reader.Reader.turn.Goals as goal

pub returns : goal.returns
returns c =
    let r = c.args.self.now in
    let t = r.tables in
    record {
      state =
          state_is _
          ∙ (λ j. view (record { heading = t.heading; stage = Alternate; entry = t.entry; moves = moves_in t; rows = rows_in t; row = record { main = r.row.main; ins = r.row.ins; outs = r.row.outs; alts = c.place-place.ensures.value j; end = c.place-place.ensures.value j } }))
          ∙ turned_branch t.heading t.entry (moves_in t) (rows_in t) r.row
          ∙ ap turned (sym (staged r Branch c.requires));
      heading = refl;
    }
