use Rattle.std.proofs.Common.{◌<◌, length, rules}
use Rattle.equations.proofs.Rows.{move_is}
use Rattle.equations.proofs.set.EquationSet.back_move.Goals as goal

pub returns : goal.returns
returns c =
    let at : c.args.m.to < length c.args.self.now.words = search rules in
    move_is c.args.self.now.words c.add.new.self.words c.args.m c.empty.result at c.empty.ensures c.add.ensures
