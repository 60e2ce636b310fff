use Rattle.std.proofs.Common.{rules}
use Rattle.sets.proofs.Masks.{bit-or}
use Rattle.sets.proofs.mask.union.Goals as goal

pub returns : goal.returns
returns c v = search (rules, bit-or)
