use Rattle.machine.specs.Table.{table_meaning}
use Rattle.bench.specs.declared.cells.TheConstants.{LIMIT}
use Rattle.pace.proofs.FirstGrant.{first_grant}
use Rattle.pace.proofs.compare.Goals as goal

pub returns : goal.returns
returns c = (
  table_meaning c.wheel.result,
  table_meaning c.wheel-2.result,
  c.wheel.ensures,
  c.wheel-2.ensures,
  first_grant table_meaning table_meaning c.wheel.result c.wheel-2.result c.open-bench.result c.advance.new.self LIMIT c.advance.result
      c.open-bench.ensures.machines_taken_in c.open-bench.ensures.search_opened c.advance.ensures.answers_and_works,
)
