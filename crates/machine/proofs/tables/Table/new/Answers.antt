use Rattle.std.proofs.Common.{ℕ, arith}
use Rattle.machine.proofs.Alike.{all_alike}
use Rattle.machine.proofs.tables.Table.new.Goals as goal

pub invariant_of-result-clause-next_is_state : goal.invariant_of-result-clause-next_is_state
invariant_of-result-clause-next_is_state c = λ k. omega (arith, all_alike {X = ℕ} 2048 k 0)
