use Rattle.std.proofs.Common.{◌≡◌, ◌≢◌}
use Rattle.comparison.specs.Deciding.{Decided, NotCompared}
use Rattle.comparison.proofs.Machines.{of_watches}
use Rattle.comparison.proofs.deciding.decide_watched.Goals as goal

pub returns-clause-decided_where_alike : goal.returns-clause-decided_where_alike
returns-clause-decided_where_alike g c = λ same.
    let d = of_watches g.L.Machine.meaning g.R.Machine.meaning c.begin-left.result.0 c.begin-right.result.0 c.args.left c.args.right c.begin-left.ensures.at_the_start c.begin-right.ensures.at_the_start
    (λ l r. l.steps.cues ≡ r.steps.cues → Decided l r c.decide-left.result c.args.buffer.now c.decide-left.new.buffer) c.decide-left.ensures.decided_where_alike same in
    record { verdict = d.verdict; tally = d.tally; show = d.show }

pub returns-clause-not_compared_where_unlike : goal.returns-clause-not_compared_where_unlike
returns-clause-not_compared_where_unlike g c = λ differ.
    let d = of_watches g.L.Machine.meaning g.R.Machine.meaning c.begin-left.result.0 c.begin-right.result.0 c.args.left c.args.right c.begin-left.ensures.at_the_start c.begin-right.ensures.at_the_start
    (λ l r. l.steps.cues ≢ r.steps.cues → NotCompared c.decide-left.result c.args.buffer.now c.decide-left.new.buffer) c.decide-left.ensures.not_compared_where_unlike differ in
    record { verdict = d.verdict; worked = d.worked; recorded = d.recorded; show = d.show; buffer = d.buffer }
