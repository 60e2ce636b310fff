use Rattle.std.proofs.Common.{rules}
use Rattle.sets.proofs.Masks.{bit-less}
use Rattle.sets.proofs.mask.without.Goals as goal

pub returns : goal.returns
returns c v = search (rules, bit-less 64 c.args.a c.args.b v)
