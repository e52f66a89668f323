use Rattle.clients.proofs.ComparisonLemmas.{enough_read}
use Rattle.clients.proofs.comparisons.fails_in_reading.Goals as goal

pub returns-in-Ok-clause-else_all_that_counts_is_read : goal.returns-in-Ok-clause-else_all_that_counts_is_read
returns-in-Ok-clause-else_all_that_counts_is_read g c = enough_read _ _ c.in-Ok.ensures.reads_enough

pub returns-in-Err-Writing-clause-else_all_that_counts_is_read : goal.returns-in-Err-Writing-clause-else_all_that_counts_is_read
returns-in-Err-Writing-clause-else_all_that_counts_is_read g c = enough_read _ _ (rw c.in-Err-Writing.field-0-is at c.in-Err-Writing.ensures.fails_as_told)
