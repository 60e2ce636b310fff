use Rattle.std.proofs.Common.{sym, ap, ◌∙◌}
use Rattle.reading.proofs.Views.{staged}
use Rattle.reading.specs.Reading.{opened}
use Rattle.reading.specs.declared.stage.Stage.TheVariants.{Before}
use Rattle.reading.proofs.reader.Reader.open_node.Goals as goal

pub returns-in-Before : goal.returns-in-Before
returns-in-Before c =
    let r = c.args.self.now in
    staged r Before c.in-Before.is ∙ ap opened (sym (staged r Before c.in-Before.is))
