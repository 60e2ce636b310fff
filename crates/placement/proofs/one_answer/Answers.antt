use Rattle.placement.proofs.Exactly.{one_answer}
use Rattle.placement.proofs.one_answer.Goals as goal

pub returns : goal.returns
returns c = one_answer
