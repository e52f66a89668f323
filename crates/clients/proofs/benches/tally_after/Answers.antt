use Rattle.clients.proofs.Steady.{one_grant}
use Rattle.clients.proofs.Counted.{counted_as}
use Rattle.clients.proofs.benches.tally_after.Goals as goal

pub returns : goal.returns
returns g c =
    let lefts = g.L.Machine.meaning in
    let rights = g.R.Machine.meaning in
    let so = one_grant lefts rights c.args.grant c.open-bench.result _ c.args.left c.args.right c.advance.new.self
    record { machines = c.open-bench.ensures.machines_taken_in; truth = c.open-bench.ensures.tells_the_truth; stays = c.open-bench.ensures.stays_unlike } c.advance.ensures.answers_and_works in
    counted_as lefts rights c.args.left c.args.right c.args.grant c.advance.new.self _ _ _ so c.verdict.ensures c.tally-worked.ensures.answers_and_stays
