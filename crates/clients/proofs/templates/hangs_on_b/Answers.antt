use Rattle.std.proofs.Common.{rules}
use Rattle.clients.proofs.Rules.{b_matters}
use Rattle.clients.proofs.templates.hangs_on_b.Goals as goal

pub returns : goal.returns
returns c = b_matters c.args.template c.eq.result (search rules) c.arguments.ensures.takes_what_it_needs
