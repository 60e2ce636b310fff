use Rattle.std.proofs.Common.{◌≡◌, ℕ, not, ◌&&◌, ◌||◌, eqb, arith}
use Rattle.sets.specs.Masks.{bit}
use Rattle.sets.proofs.Masks.{bit-zero}
use Rattle.equations.proofs.Rows.{worked-none, worked_more, worked_all, renamed_is, rename_none}
use Rattle.equations.proofs.set.EquationSet.rename.Goals as goal

pub loop-word-init : goal.loop-word-init
loop-word-init c = worked-none _ c.args.self.now.words

pub loop-word-preserved : goal.loop-word-preserved
loop-word-preserved c =
    worked_more _ c.args.self.now.words c.loop-word.word-items c.loop-word.word-index c.rename_word.result c.loop-word.invariant (omega arith) c.rename_word.ensures

pub returns : goal.returns
returns c =
    let d = c.args.d in
    let a = c.args.a in
    renamed_is c.args.self.now.words c.loop-word.word-items d a
    (worked_all (λ k old new. (v : ℕ) → bit new v ≡ ((bit old v && not (eqb v d)) || (eqb v a && bit old d))) c.args.self.now.words c.loop-word.word-items c.loop-word.word-index c.loop-word.invariant (omega arith)
    (λ k l. rename_none 0 d a (bit-zero d)))
