use Rattle.verdict.proofs.Unique.{one_verdict_lem}
use Rattle.verdict.proofs.check.one_verdict.Goals as goal

pub returns : goal.returns
returns c = one_verdict_lem
