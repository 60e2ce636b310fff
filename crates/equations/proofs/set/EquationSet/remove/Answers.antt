use Rattle.std.proofs.Common.{◌≡◌, ℕ, Bool, not, ◌&&◌, sym, ap, ◌∙◌, arith}
use Rattle.sets.specs.Masks.{bit}
use Rattle.sets.proofs.Masks.{bit-zero}
use Rattle.equations.proofs.Rows.{worked-none, worked_more, worked_all, removed_is}
use Rattle.equations.proofs.set.EquationSet.remove.Goals as goal

pub loop-word-init : goal.loop-word-init
loop-word-init c = worked-none _ c.args.self.now.words

pub loop-word-preserved : goal.loop-word-preserved
loop-word-preserved c = worked_more _ c.args.self.now.words c.loop-word.word-items c.loop-word.word-index c.without.result c.loop-word.invariant (omega arith) c.without.ensures

pub returns : goal.returns
returns c =
    let m = c.args.mask in
    removed_is c.args.self.now.words c.loop-word.word-items m
    (worked_all (λ k old new. (v : ℕ) → bit new v ≡ (bit old v && not (bit m v))) c.args.self.now.words c.loop-word.word-items c.loop-word.word-index c.loop-word.invariant (omega arith)
    (λ k l v. bit-zero v ∙ ap (λ (x : Bool). x && not (bit m v)) (sym (bit-zero v))))
