use Rattle.std.proofs.Common.{rules}
use Rattle.rules.specs.Rule.{terms}
use Rattle.clients.proofs.Rules.{by_count}
use Rattle.clients.proofs.templates.called_at_least.Goals as goal

pub returns-clause-yes_if_called_so_often : goal.returns-clause-yes_if_called_so_often
returns-clause-yes_if_called_so_often c =
    let counts = by_count (terms c.in_ok-rule.rule) c.args.a c.args.n c.args.show.now (search rules) c.holds.ensures.sees_place_by_place in
    (λ h. counts.0 (c.holds.ensures.yes_if_held.0 h), λ h. c.holds.ensures.yes_if_held.1 (counts.1 h))
