use Rattle.machine.proofs.Order.{show_order_lem}
use Rattle.machine.proofs.theorems.shows_stand_in_one_order.Goals as goal

pub returns : goal.returns
returns c = show_order_lem
