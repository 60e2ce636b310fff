use Rattle.soundness.proofs.Asking.{accepted_asks_lem}
use Rattle.soundness.proofs.law.accepted_asks.Goals as goal

pub returns : goal.returns
returns c = accepted_asks_lem
