use Rattle.std.proofs.Common.{rules}
use Rattle.sets.proofs.Masks.{bit_single}
use Rattle.sets.proofs.mask.single.Goals as goal

pub returns : goal.returns
returns c w = search (rules, bit_single)
