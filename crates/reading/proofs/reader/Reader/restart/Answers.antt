use Rattle.std.proofs.Common.{◌∙◌}
use Rattle.reading.proofs.Views.{view, state_is}
use Rattle.reading.specs.declared.stage.Stage.TheVariants.{Start}
use Rattle.allocation.specs.declared.line.Main.TheVariants.{Skip}
use Rattle.reading.proofs.reader.Reader.restart.Goals as goal

pub returns : goal.returns
returns c =
    let t = c.start.ensures in
    state_is _ ∙ (λ j. view (record { heading = t.heading j; stage = Start; entry = t.entry j; moves = t.moves j; rows = t.rows j; row = record { main = Skip; ins = 0; outs = 0; alts = 0; end = 0 } }))
