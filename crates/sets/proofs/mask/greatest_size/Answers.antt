use Rattle.std.proofs.Common.{◌≡◌, ℕ, max, length, get_or, sym, ap, ◌∙◌, arith}
use Rattle.sets.specs.Masks.{bit, count, greatest}
use Rattle.sets.proofs.Masks.{greatest-zero, greatest_more}
use Rattle.sets.proofs.mask.greatest_size.Goals as goal

pub loop-word-init : goal.loop-word-init
loop-word-init c = sym (greatest-zero (λ n. count 64 (bit (get_or c.args.words.now n 0))))

pub loop-word-preserved : goal.loop-word-preserved
loop-word-preserved c =
    let i = c.loop-word.word-index in
    let f : ℕ → ℕ = λ n. count 64 (bit (get_or c.args.words.now n 0)) in
    c.greater-most.ensures ∙ ap (λ (m : ℕ). max m (f i)) c.loop-word.invariant ∙ sym (greatest_more f i)

pub returns : goal.returns
returns c =
    let e : c.loop-word.word-index ≡ length c.args.words.now = omega arith in
    c.loop-word.invariant ∙ ap (greatest (λ n. count 64 (bit (get_or c.args.words.now n 0)))) e
