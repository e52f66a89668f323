use Rattle.machine.specs.Table.{table_meaning}
use Rattle.examples.proofs.LoadFirst.{load_first_lem}
use Rattle.examples.proofs.flight.Goals as goal

pub returns-clause-flies_only_after_load : goal.returns-clause-flies_only_after_load
returns-clause-flies_only_after_load c = load_first_lem (table_meaning c.filled.result) c.filled.ensures
