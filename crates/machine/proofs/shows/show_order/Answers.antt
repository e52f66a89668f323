use Rattle.std.proofs.Common.{rules, ◌≡◌}
use Rattle.machine.proofs.Order.{show_cmp, placed}
use Rattle.machine.proofs.shows.show_order.Goals as goal

pub returns : goal.returns
returns c =
    let answer : c.then_with.result ≡ show_cmp c.args.s.now c.args.t.now = search rules in
    rw answer (placed c.args.s.now c.args.t.now)
