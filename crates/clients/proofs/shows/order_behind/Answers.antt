use Rattle.std.proofs.Common.{◌≡◌, rules, nat_cmp}
use Rattle.std.specs.Ordering.{ordering_then}
use Rattle.clients.proofs.InOrder.{with_one_more}
use Rattle.clients.proofs.shows.order_behind.Goals as goal

pub returns : goal.returns
returns c =
    let answer : c.then.result ≡ ordering_then c.show_order.result (nat_cmp c.args.c c.args.d) = search rules in
    rw answer (with_one_more c.shows_stand_in_one_order.ensures c.args.s.now c.args.t.now c.args.c c.args.d c.show_order.result c.show_order.ensures)
