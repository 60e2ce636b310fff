use Rattle.places.proofs.Forms.{published_lines_well_formed_lem}
use Rattle.places.proofs.theorems.published_lines_well_formed.Goals as goal

pub returns : goal.returns
returns c = published_lines_well_formed_lem
