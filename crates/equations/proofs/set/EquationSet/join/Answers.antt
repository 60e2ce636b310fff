use Rattle.std.proofs.Common.{◌≡◌, ℕ, ◌||◌, get_or, sym, ap, ◌∙◌, ap₂, arith}
use Rattle.std.proofs.lemmas.List.{get_or_past}
use Rattle.sets.specs.Masks.{bit}
use Rattle.sets.proofs.Masks.{bit-zero}
use Rattle.equations.proofs.Rows.{worked-none, worked_more, worked_all, either_is}
use Rattle.equations.proofs.set.EquationSet.join.Goals as goal

pub loop-l-init : goal.loop-l-init
loop-l-init c = worked-none _ c.args.self.now.words

pub loop-l-preserved : goal.loop-l-preserved
loop-l-preserved c = worked_more _ c.args.self.now.words c.loop-l.word-items c.loop-l.l c.union.result c.loop-l.invariant (omega arith) c.union.ensures

pub returns : goal.returns
returns c =
    let other = c.args.other.now.words in
    either_is c.args.self.now.words other c.loop-l.word-items
    (worked_all (λ k old new. (v : ℕ) → bit new v ≡ (bit old v || bit (get_or other k 0) v)) c.args.self.now.words c.loop-l.word-items c.loop-l.l c.loop-l.invariant (omega arith)
    (λ k l v. bit-zero v ∙ sym (ap₂ ◌||◌ (bit-zero v) (ap (λ (x : ℕ). bit x v) (get_or_past other k 0 (omega arith)) ∙ bit-zero v))))
