use Rattle.machine.specs.Table.{table_meaning}
use Rattle.examples.proofs.Held.{hold_later_lem}
use Rattle.examples.proofs.held_later.Goals as goal

pub returns-clause-each_load_is_held_later : goal.returns-clause-each_load_is_held_later
returns-clause-each_load_is_held_later c = hold_later_lem (table_meaning c.filled.result) c.filled.ensures
