use Rattle.colouring.proofs.Orders.{colouring_by_order_lem}
use Rattle.colouring.proofs.theorems.colouring_by_order.Goals as goal

pub returns : goal.returns
returns c = colouring_by_order_lem
