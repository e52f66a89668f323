use Rattle.rules.proofs.Seen.{seen_by_place}
use Rattle.rules.proofs.rules.Rule.holds.Goals as goal

pub returns-clause-sees_place_by_place : goal.returns-clause-sees_place_by_place
returns-clause-sees_place_by_place c = seen_by_place c.args.self
