use Rattle.colouring.proofs.Orders.{coloured_one}
use Rattle.colouring.proofs.theorems.one_colouring.Goals as goal

pub returns : goal.returns
returns c V K conf left order order' ps qs = coloured_one V K conf order order' left ps qs
