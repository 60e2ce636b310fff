use Rattle.sets.specs.Masks.{bit}
use Rattle.colouring.proofs.Rows.{arriving_is}
use Rattle.colouring.proofs.conflicts.find_arriving.Goals as goal

pub returns : goal.returns
returns c v = arriving_is c.args.parameters c.args.entry v (bit c.below.result) (bit c.intersection.result) c.ranges.entry.fits c.below.ensures c.intersection.ensures
