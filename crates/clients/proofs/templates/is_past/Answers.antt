use Rattle.std.proofs.Common.{arith}
use Rattle.std.proofs.lemmas.Bool.Decides.{nat_tests}
use Rattle.rules.specs.Rule.{terms}
use Rattle.clients.proofs.Rules.{no_later}
use Rattle.clients.proofs.templates.is_past.Goals as goal

pub returns : goal.returns
returns c = λ over past. no_later (terms c.args.rule) c.args.word.now c.args.state c.states-states.ensures.numbered_by_first_reach over (grind (arith, nat_tests))
