use Rattle.std.proofs.Common.{arith}
use Rattle.std.proofs.lemmas.Bool.Decides.{nat_tests}
use Rattle.rules.specs.Rule.{terms}
use Rattle.clients.proofs.Rules.{reached_if_own}
use Rattle.clients.proofs.templates.is_reached.Goals as goal

pub returns : goal.returns
returns c =
    let own = reached_if_own (terms c.args.rule) c.args.state c.states.ensures.numbered_by_first_reach in
    (λ h. own.0 (grind (arith, nat_tests)), λ h. let low = own.1 h in grind (arith, nat_tests))
