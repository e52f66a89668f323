use Rattle.clients.proofs.Books.{retuned_so}
use Rattle.clients.proofs.drafts.retune_one.Goals as goal

pub returns-clause-has_the_count : goal.returns-clause-has_the_count
returns-clause-has_the_count c = (retuned_so c.retune.result c.args.i c.args.n c.args.draft.now c.retune.new.self c.retune.ensures).0

pub returns-clause-others_stay : goal.returns-clause-others_stay
returns-clause-others_stay c = (retuned_so c.retune.result c.args.i c.args.n c.args.draft.now c.retune.new.self c.retune.ensures).1
