use Rattle.places.proofs.Count.{published_lines_few}
use Rattle.places.proofs.theorems.few_moves.Goals as goal

pub returns : goal.returns
returns c = published_lines_few
