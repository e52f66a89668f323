use Rattle.std.proofs.Common.{inl, inr, arith}
use Rattle.clients.proofs.ComparisonLemmas.{same_or_not, fewer, none_fewer, all_worked, some_left}
use Rattle.clients.proofs.comparisons.left_to_work.Goals as goal

pub overflow_sub-unworked : goal.overflow_sub-unworked
overflow_sub-unworked g c = elim (same_or_not (g.L.Machine.meaning c.args.left).steps.cues (g.R.Machine.meaning c.args.right).steps.cues) [
  | inl alike ↦ fewer _ _ _ _ (c.decide-verdict.ensures.decided_where_alike alike).tally
  | inr differ ↦ none_fewer _ _ _ (c.decide-verdict.ensures.not_compared_where_unlike differ)
]

pub returns-clause-none_where_equal : goal.returns-clause-none_where_equal
returns-clause-none_where_equal g c = λ alike equal. omega (arith, all_worked _ _ _ _ (c.decide-verdict.ensures.decided_where_alike alike).tally equal)

pub returns-clause-some_where_divided : goal.returns-clause-some_where_divided
returns-clause-some_where_divided g c = λ alike side. omega (arith, some_left _ _ _ _ (c.decide-verdict.ensures.decided_where_alike alike).tally side)
