use Rattle.determinacy.proofs.Once.{one_answer_each_lem}
use Rattle.determinacy.proofs.one_answer_each.Goals as goal

pub returns : goal.returns
returns c = one_answer_each_lem
