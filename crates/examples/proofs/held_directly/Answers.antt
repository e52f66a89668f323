use Rattle.machine.specs.Table.{table_meaning}
use Rattle.examples.proofs.Held.{hold_directly_lem}
use Rattle.examples.proofs.held_directly.Goals as goal

pub returns-clause-each_load_is_held_directly : goal.returns-clause-each_load_is_held_directly
returns-clause-each_load_is_held_directly c = hold_directly_lem (table_meaning c.filled.result) c.filled.ensures
