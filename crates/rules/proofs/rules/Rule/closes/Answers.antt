use Rattle.rules.specs.Rule.{terms}
use Rattle.rules.proofs.Walks.{closes_where_it_holds}
use Rattle.rules.proofs.rules.Rule.closes.Goals as goal

pub returns-in-Existence-clause-closes_where_it_holds : goal.returns-in-Existence-clause-closes_where_it_holds
returns-in-Existence-clause-closes_where_it_holds c = closes_where_it_holds (terms c.args.self)

pub returns-in-Absence-clause-closes_where_it_holds : goal.returns-in-Absence-clause-closes_where_it_holds
returns-in-Absence-clause-closes_where_it_holds c = closes_where_it_holds (terms c.args.self)

pub returns-in_default-clause-closes_where_it_holds : goal.returns-in_default-clause-closes_where_it_holds
returns-in_default-clause-closes_where_it_holds c = closes_where_it_holds (terms c.args.self)
