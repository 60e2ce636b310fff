use Rattle.std.proofs.Common.{◌≡◌, ℕ, ◌-◌, length, subst, arith, rules}
use Rattle.sets.proofs.Turns.{turn_start}
use Rattle.source.specs.Nodes.{Sound, node_at}
use Rattle.source.proofs.Soundness.{all_sound}
use Rattle.loader.specs.Live.{live_step, live_sets}
use Rattle.loader.proofs.Flow.{live_same, live_set}
use Rattle.loader.proofs.live.pass.Goals as goal

pub loop-n-init : goal.loop-n-init
loop-n-init c = turn_start (length c.args.nodes.now) (live_step c.args.nodes.now) live_sets c.args.live.now c.requires.growing

pub live_in-new-requires : goal.live_in-new-requires
live_in-new-requires c =
    let len : length c.args.nodes.now ≡ length c.loop-n.live = omega arith in
    subst (λ (k : ℕ). Sound 64 k (node_at c.args.nodes.now (c.loop-n.n - 1))) len (all_sound 64 c.args.nodes.now c.requires.sound (c.loop-n.n - 1) (omega arith))

pub loop-n-preserved-then-new-live : goal.loop-n-preserved-then-new-live
loop-n-preserved-then-new-live c =
    search (
      rules,
      live_set c.args.nodes.now c.requires.sound c.args.live.now c.loop-n.live c.loop-n.n (c.loop-n.n - 1) c.live_in-new.result c.loop-n.changed
          c.loop-n.invariant (omega arith) (omega arith) (omega arith) c.live_in-new.ensures c.if-new-live.true (search rules),
    )

pub loop-n-preserved : goal.loop-n-preserved
loop-n-preserved c =
    live_same c.args.nodes.now c.requires.sound c.args.live.now c.loop-n.live c.loop-n.n (c.loop-n.n - 1) c.live_in-new.result c.loop-n.changed
    c.loop-n.invariant (omega arith) (omega arith) (omega arith) c.live_in-new.ensures c.if-new-live.false

pub returns : goal.returns
returns c =
    record {
      growing = c.loop-n.invariant.growing;
      again = c.loop-n.invariant.again;
      done = λ e n h x. c.loop-n.invariant.done e n (omega arith) h x;
    }
