use Rattle.std.proofs.Common.{rules}
use Rattle.engine.specs.Held.{held}
use Rattle.service.proofs.Serving.{serving_more}
use Rattle.service.proofs.mixed.VecSteps.make_all.Goals as goal

pub loop-call-preserved : goal.loop-call-preserved
loop-call-preserved g c = serving_more g.C.Step.Made (held c.args.engine.now) c.deref_mut-call-items.result.now c.loop-call.call-items c.loop-call.call-index (held c.loop-call.engine) (held c.make.new.engine) c.call-item.result c.make.new.self c.loop-call.invariant (search rules) c.make.ensures
