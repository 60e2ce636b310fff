use Rattle.std.proofs.Common.{◌*◌, length, refl, ◌∙◌}
use Rattle.sets.proofs.Least.{finish}
use Rattle.equations.specs.Steps.{step_of}
use Rattle.equations.proofs.Visits.{cleared_grow, front_filled}
use Rattle.equations.proofs.flow.solve.Goals as goal

pub loop-init : goal.loop-init
loop-init c =
    let f = front_filled c.args.memory.now (64 * length c.args.candidate.now.nodes.now) c.fill.new.self c.requires (c.fill.ensures.after (λ y e. e)) in
    (cleared_grow (length c.args.candidate.now.nodes.now) (step_of c.args.candidate.now) _ f.0, λ k h. refl)

pub returns : goal.returns
returns c =
    let f = front_filled c.args.memory.now (64 * length c.args.candidate.now.nodes.now) c.fill.new.self c.requires (c.fill.ensures.after (λ y e. e)) in
    record {
      least = finish (length c.args.candidate.now.nodes.now) (step_of c.args.candidate.now) c.pass.ensures.growing (c.pass.ensures.done c.loop-test.false);
      others = λ k h. c.pass.ensures.others k h ∙ c.loop.invariant.1 k h ∙ f.1 k h;
    }
