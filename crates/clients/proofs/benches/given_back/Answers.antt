use Rattle.std.proofs.Common.{◌*◌, ◌∙◌}
use Rattle.clients.proofs.Told.{kept}
use Rattle.clients.proofs.Steady.{at_first, once_more, steady}
use Rattle.clients.proofs.benches.given_back.Goals as goal

pub loop-init : goal.loop-init
loop-init g c = at_first g.M.Machine.meaning g.M.Machine.meaning c.args.grant c.open-bench.result

pub loop-preserved : goal.loop-preserved
loop-preserved g c = once_more g.M.Machine.meaning g.M.Machine.meaning c.args.grant c.open-bench.result c.loop.counter _ c.loop.bench c.advance.new.self c.loop.invariant c.advance.ensures.answers_and_works

pub returns : goal.returns
returns g c =
    let lefts = g.M.Machine.meaning in
    let rights = g.M.Machine.meaning in
    let so = steady lefts rights c.args.grant c.open-bench.result c.loop.counter c.args.left c.args.right c.loop.bench
    record { machines = c.open-bench.ensures.machines_taken_in; truth = c.open-bench.ensures.tells_the_truth; stays = c.open-bench.ensures.stays_unlike } c.loop.invariant in
    let same = kept lefts rights c.args.left c.args.right (c.loop.counter * c.args.grant) c.loop.bench so in
    (c.release-left.ensures.0 ∙ same.0, c.release-left.ensures.1 ∙ same.1)
