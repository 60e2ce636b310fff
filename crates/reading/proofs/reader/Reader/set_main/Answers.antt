use Rattle.std.proofs.Common.{sym, ap, ◌∙◌}
use Rattle.allocation.specs.Allocations.{rows_in, moves_in}
use Rattle.reading.proofs.Views.{view, state_is, staged, with_main_is}
use Rattle.reading.specs.Reading.{with_main}
use Rattle.reading.specs.declared.stage.Stage.TheVariants.{Before}
use Rattle.reading.proofs.reader.Reader.set_main.Goals as goal

pub returns : goal.returns
returns c =
    let r = c.args.self.now in
    let t = r.tables in
    let m = c.args.main in
    state_is _
    ∙ (λ j. view (record { heading = t.heading; stage = c.stage_after-self.ensures.value j; entry = t.entry; moves = moves_in t; rows = rows_in t; row = record { main = m; ins = r.row.ins; outs = c.place-place.ensures.value j; alts = c.place-place.ensures.value j; end = c.place-place.ensures.value j } }))
    ∙ with_main_is t.heading t.entry (moves_in t) (rows_in t) m r.row
    ∙ ap (λ s. with_main s m) (sym (staged r Before c.requires.stage))
