use Rattle.sets.proofs.Masks.{bit-and}
use Rattle.sets.proofs.mask.intersection.Goals as goal

pub returns : goal.returns
returns c v = bit-and c.args.a c.args.b v
