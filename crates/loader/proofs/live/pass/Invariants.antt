use Rattle.loader.proofs.Flow.{LiveTurn}
use Rattle.loader.proofs.live.pass.Given as goal

abbrev pub invariant-loop-n : goal.invariant-loop-n
invariant-loop-n l = LiveTurn l.nodes l.initial.live l.live l.n l.changed
