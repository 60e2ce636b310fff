use Rattle.std.proofs.Common.{ℕ, ◌/◌, ◌^◌, eqb, ap}
use lib.Bits.{and_mask}
use Rattle.sets.specs.Masks.{bit}
use Rattle.sets.proofs.mask.has.Goals as goal

pub returns : goal.returns
unfolding bit
returns c = ap (λ (z : ℕ). eqb z 1) (and_mask (c.args.m / 2 ^ c.args.v) 1)
