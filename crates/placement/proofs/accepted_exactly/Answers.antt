use Rattle.placement.proofs.Exactly.{accepted_exactly_lem}
use Rattle.placement.proofs.accepted_exactly.Goals as goal

pub returns : goal.returns
returns c = accepted_exactly_lem
