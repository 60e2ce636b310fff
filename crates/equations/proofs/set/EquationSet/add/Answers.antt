use Rattle.std.proofs.Common.{◌<◌, length, rules}
use Rattle.equations.proofs.Rows.{with_is}
use Rattle.equations.proofs.set.EquationSet.add.Goals as goal

pub returns : goal.returns
returns c =
    let at : c.args.l < length c.args.self.now.words = search rules in
    with_is c.args.self.now.words c.args.l c.union.result c.args.mask at c.union.ensures
