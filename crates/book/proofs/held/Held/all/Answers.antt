use Rattle.std.proofs.Common.{sym}
use Rattle.std.proofs.lemmas.List.{take-map}
use Rattle.rules.specs.Rule.{terms}
use Rattle.book.proofs.held.Held.all.Goals as goal

pub returns-clause-just_those_held : goal.returns-clause-just_those_held
returns-clause-just_those_held c = rw c.from.ensures (sym (take-map terms c.args.self.now.count c.args.self.now.rules))
