use Rattle.std.proofs.Common.{rules}
use Rattle.clients.proofs.Rules.{count_matters}
use Rattle.clients.proofs.templates.hangs_on_its_count.Goals as goal

pub returns : goal.returns
returns c = count_matters c.args.template c.eq.result (search rules) c.arguments.ensures.takes_what_it_needs
