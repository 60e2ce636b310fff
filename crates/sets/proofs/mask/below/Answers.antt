use Rattle.std.proofs.Common.{rules}
use Rattle.sets.proofs.Masks.{bit_below, bit_full}
use Rattle.sets.proofs.mask.below.Goals as goal

pub returns-then-n-lt64 : goal.returns-then-n-lt64
returns-then-n-lt64 c v = search (rules, bit_below)

pub returns-else-n-lt64 : goal.returns-else-n-lt64
returns-else-n-lt64 c v = search (rules, bit_full)
