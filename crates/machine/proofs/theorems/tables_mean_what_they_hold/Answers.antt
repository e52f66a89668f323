use Rattle.machine.proofs.Described.{means_what_it_holds}
use Rattle.machine.proofs.theorems.tables_mean_what_they_hold.Goals as goal

pub returns : goal.returns
returns c = means_what_it_holds
