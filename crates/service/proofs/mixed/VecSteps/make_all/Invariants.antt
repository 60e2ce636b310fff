use Rattle.engine.specs.Held.{held}
use Rattle.service.proofs.Serving.{Serving}
use Rattle.service.proofs.mixed.VecSteps.make_all.Given as goal

abbrev pub invariant-loop-call : goal.invariant-loop-call
invariant-loop-call g l = Serving g.C.Step.Made (held l.initial.engine) l.initial.call-items l.call-items l.call-index (held l.engine)
