use Rattle.std.proofs.Common.{◌≡◌, ◌-◌, ◌/◌, ◌<◌, ◌≤◌, length, refl, ◌∙◌, arith}
use Rattle.sets.proofs.Turns.{turn_start}
use Rattle.equations.specs.Equations.{memory_sets}
use Rattle.equations.specs.Steps.{step_of}
use Rattle.equations.proofs.Nodes.{sound_more}
use Rattle.equations.proofs.Reach.{reach_of}
use Rattle.equations.proofs.Visits.{visit_same, visit_set, word_grows}
use Rattle.equations.proofs.flow.pass.Goals as goal

pub loop-n-init : goal.loop-n-init
loop-n-init c = (
  turn_start (length c.args.candidate.now.nodes.now) (step_of c.args.candidate.now) memory_sets c.args.memory.now c.requires.growing,
  λ k h. refl,
  λ k. (c.type_inv.memory k).fits,
)

pub before_node-requires : goal.before_node-requires
before_node-requires c =
    let reach = reach_of c.args.candidate.now in
    let n = c.loop-n.n - 1 in
    let room : length c.args.candidate.now.nodes.now ≤ length c.loop-n.memory / 64 = omega arith in
    record {
      sound = sound_more 64 _ c.args.candidate.now.nodes.now reach.node n (omega arith) room;
      row = reach.row n (omega (arith, reach.long));
      moves = reach.move;
    }

pub store-requires : goal.store-requires
store-requires c =
    let n = c.loop-n.n - 1 in
    let at : n < length c.args.candidate.now.nodes.now = omega arith in
    record {
      fits = omega arith;
      grows = λ l h. word_grows c.loop-n.memory c.before_node.new.self.words _ n l h (c.loop-n.invariant.2 _) c.before_node.ensures (c.loop-n.invariant.0.growing.grows n at);
    }

pub loop-n-preserved : goal.loop-n-preserved
loop-n-preserved c =
    let d = c.args.candidate.now in
    let long : length c.before_node.new.self.words ≡ 64 = c.before_node.new.self.long in (
      visit_same d.nodes.now d.rows.now d.moves.now (reach_of d) c.args.memory.now c.loop-n.memory c.before_node.new.self.words c.store.new.memory
          c.loop-n.n (c.loop-n.n - 1) c.loop-n.changed c.loop-n.invariant.0 (omega arith) long c.store.ensures.stored c.before_node.ensures (c.store.ensures.done c.if-store.false),
      (λ k h. c.store.ensures.stored.others k (λ g. omega arith) ∙ c.loop-n.invariant.1 k h),
      (λ k. (c.type_inv.memory k).fits),
    )

pub loop-n-preserved-then-store : goal.loop-n-preserved-then-store
loop-n-preserved-then-store c =
    let d = c.args.candidate.now in
    let long : length c.before_node.new.self.words ≡ 64 = c.before_node.new.self.long in (
      visit_set d.nodes.now d.rows.now d.moves.now (reach_of d) c.args.memory.now c.loop-n.memory c.before_node.new.self.words c.store.new.memory
          c.loop-n.n (c.loop-n.n - 1) c.loop-n.changed c.loop-n.invariant.0 (omega arith) long c.store.ensures.stored c.before_node.ensures (c.store.ensures.again c.if-store.true),
      (λ k h. c.store.ensures.stored.others k (λ g. omega arith) ∙ c.loop-n.invariant.1 k h),
      (λ k. (c.type_inv.memory k).fits),
    )

pub returns : goal.returns
returns c = record {
  growing = c.loop-n.invariant.0.growing;
  again = c.loop-n.invariant.0.again;
  done = λ e n h x. c.loop-n.invariant.0.done e n (omega arith) h x;
  others = c.loop-n.invariant.1;
}
