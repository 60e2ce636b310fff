use Rattle.loader.proofs.Answered.{one_answer}
use Rattle.loader.proofs.load.loads_have_one_answer.Goals as goal

pub returns : goal.returns
returns c = one_answer
