use Rattle.book.proofs.Places.{retuned_tidy, retuned_at}
use Rattle.book.proofs.held.Held.retune.Goals as goal

pub returns-clause-is_tidy : goal.returns-clause-is_tidy
returns-clause-is_tidy c = rw c.from.ensures (retuned_tidy c.args.self.now c.requires.is_tidy c.args.i c.args.n _ _ c.requires.is_held _ (rw c.from.ensures at c.retune.ensures))

pub returns-clause-retunes_it_alone : goal.returns-clause-retunes_it_alone
returns-clause-retunes_it_alone c = rw c.from.ensures (retuned_at c.args.self.now c.requires.is_tidy c.args.i c.args.n _ _ c.requires.is_held _ (rw c.from.ensures at c.retune.ensures))
