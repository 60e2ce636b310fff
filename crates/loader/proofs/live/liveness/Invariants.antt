use Rattle.std.proofs.Common.{◌≡◌, length}
use Rattle.sets.specs.Least.{Growing, room}
use Rattle.loader.specs.Live.{live_step, live_sets}
use Rattle.loader.proofs.live.liveness.Given as goal

abbrev pub invariant-loop : goal.invariant-loop
invariant-loop l = (length l.live ≡ length l.nodes) × Growing (length l.nodes) (live_step l.nodes) (live_sets l.live)

abbrev pub decreases-loop : goal.decreases-loop
decreases-loop l = room l.live
