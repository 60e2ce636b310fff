use Rattle.verdict.proofs.Unique.{exactly}
use Rattle.verdict.proofs.check.accepted_exactly.Goals as goal

pub returns : goal.returns
returns c = exactly
