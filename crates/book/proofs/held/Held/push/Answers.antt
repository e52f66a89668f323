use Rattle.book.proofs.Places.{pushed}
use Rattle.book.proofs.held.Held.push.Goals as goal

pub returns-clause-is_tidy : goal.returns-clause-is_tidy
returns-clause-is_tidy c = rw c.from.ensures (pushed c.args.self.now c.requires.is_tidy c.args.rule c.requires.has_room).0

pub returns-clause-holds_it_last : goal.returns-clause-holds_it_last
returns-clause-holds_it_last c = rw c.from.ensures (pushed c.args.self.now c.requires.is_tidy c.args.rule c.requires.has_room).1
