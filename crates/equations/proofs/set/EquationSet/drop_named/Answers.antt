use Rattle.std.proofs.Common.{◌<◌, length, arith, rules}
use Rattle.equations.proofs.Rows.{dropped-none, dropped-some}
use Rattle.equations.proofs.set.EquationSet.drop_named.Goals as goal

pub returns-in_default : goal.returns-in_default
returns-in_default c = search (rules, dropped-none c.args.self.now.words c.remove.new.self.words c.args.temporary c.mask_of.result c.mask_of.ensures c.remove.ensures)

pub returns-in-Some : goal.returns-in-Some
returns-in-Some c =
    let at : c.in-Some.l < length c.args.self.now.words = search rules in
    search (
      rules,
      dropped-some c.args.self.now.words c.remove.new.self.words c.args.temporary c.mask_of.result c.in-Some.l c.empty.result (omega arith) c.empty.ensures c.mask_of.ensures c.remove.ensures,
    )
