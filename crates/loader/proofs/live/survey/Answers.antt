use Rattle.std.proofs.Common.{◌≡◌, ℕ, ◌<◌, true, length, arith, rules}
use Rattle.sets.specs.Masks.{count, greatest}
use Rattle.loader.specs.Live.{live_sets}
use Rattle.loader.proofs.Flow.{ready}
use Rattle.loader.proofs.live.survey.Goals as goal

pub returns-in-None : goal.returns-in-None
returns-in-None c =
    let words = c.liveness.new.live in
    let entry : (v : ℕ) → live_sets words 0 v ≡ true → v < c.args.parameters = search (rules, c.in-None.ensures) in
    let most : c.greatest_size.result ≡ greatest (λ n. count 64 (live_sets words n)) (length words) = search (rules, c.greatest_size.ensures) in
    ready c.args.temporaries c.args.nodes.now c.requires.sound c.args.parameters words c.greatest_size.result (omega arith) (search rules) c.liveness.ensures entry most
