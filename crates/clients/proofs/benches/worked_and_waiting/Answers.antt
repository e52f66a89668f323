use Rattle.std.proofs.Common.{arith}
use Rattle.clients.proofs.TwoGrants.{within}
use Rattle.clients.proofs.benches.worked_and_waiting.Goals as goal

pub overflow_sub-result : goal.overflow_sub-result
overflow_sub-result g c =
    let told = within g.L.Machine.meaning g.R.Machine.meaning c.args.left c.args.right c.open-bench.result c.advance-worked.new.self c.advance-worked_then.new.self _ _ _ _ _ _
    record { machines = c.open-bench.ensures.machines_taken_in; truth = c.open-bench.ensures.tells_the_truth; stays = c.open-bench.ensures.stays_unlike }
    c.advance-worked.ensures.answers_and_works c.advance-worked_then.ensures.answers_and_works c.tally-recorded.ensures.answers_and_stays in
    omega (arith, told.worked)

pub returns : goal.returns
returns g c =
    let told = within g.L.Machine.meaning g.R.Machine.meaning c.args.left c.args.right c.open-bench.result c.advance-worked.new.self c.advance-worked_then.new.self _ _ _ _ _ _
    record { machines = c.open-bench.ensures.machines_taken_in; truth = c.open-bench.ensures.tells_the_truth; stays = c.open-bench.ensures.stays_unlike }
    c.advance-worked.ensures.answers_and_works c.advance-worked_then.ensures.answers_and_works c.tally-recorded.ensures.answers_and_stays in
    record { worked_at_most_as_granted = omega (arith, told.first, told.second); recorded_at_most_2048 = omega (arith, told.worked, told.room) }
