use Rattle.std.proofs.Common.{◌≡◌, ℕ, length, replicate, rules}
use Rattle.loader.proofs.Flow.{zeros_grow}
use Rattle.loader.proofs.live.liveness.Goals as goal

pub loop-init : goal.loop-init
loop-init c =
    let k = length c.args.live.now in
    let filled : c.fill.new.self ≡ replicate {A = ℕ} k 0 = search (rules, c.fill.ensures.after (λ y e. e)) in
    (search rules, zeros_grow c.args.nodes.now k c.fill.new.self filled)
