use Rattle.machine.proofs.Showing.{whole_show}
use Rattle.machine.proofs.watches.Watch.begin.Goals as goal

pub returns-clause-stands_where_its_show_leads : goal.returns-clause-stands_where_its_show_leads
returns-clause-stands_where_its_show_leads g c = whole_show g.M.Machine.meaning c.args.machine
