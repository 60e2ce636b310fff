use Rattle.std.proofs.Common.{rules}
use Rattle.sets.proofs.Masks.{bit-zero}
use Rattle.sets.proofs.mask.empty.Goals as goal

pub returns : goal.returns
returns c v = search (rules, bit-zero)
