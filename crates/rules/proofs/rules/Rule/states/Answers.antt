use Rattle.rules.proofs.Numbering.{rule_states}
use Rattle.rules.proofs.rules.Rule.states.Goals as goal

pub returns-in-Existence-clause-numbered_by_first_reach : goal.returns-in-Existence-clause-numbered_by_first_reach
returns-in-Existence-clause-numbered_by_first_reach c = rule_states c.args.self

pub returns-in-Exactly-clause-numbered_by_first_reach : goal.returns-in-Exactly-clause-numbered_by_first_reach
returns-in-Exactly-clause-numbered_by_first_reach c = rule_states c.args.self

pub returns-in_default-clause-numbered_by_first_reach : goal.returns-in_default-clause-numbered_by_first_reach
returns-in_default-clause-numbered_by_first_reach c = rule_states c.args.self
