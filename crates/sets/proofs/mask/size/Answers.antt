use Rattle.std.proofs.Common.{rules}
use Rattle.sets.proofs.Masks.{ones_count}
use Rattle.sets.proofs.mask.size.Goals as goal

pub returns : goal.returns
returns c = search (rules, ones_count)
