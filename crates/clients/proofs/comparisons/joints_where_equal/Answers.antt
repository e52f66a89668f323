use Rattle.std.proofs.Common.{refl}
use Rattle.clients.proofs.ComparisonLemmas.{joints, found_same}
use Rattle.clients.proofs.comparisons.joints_where_equal.Goals as goal

pub returns-in-Equal-clause-have_so_many : goal.returns-in-Equal-clause-have_so_many
returns-in-Equal-clause-have_so_many g c = λ alike. joints _ _ _ _ (c.decide-decision.ensures.decided_where_alike alike).tally c.in-Equal.is

pub returns-in-Equal-clause-told_where_equal : goal.returns-in-Equal-clause-told_where_equal
returns-in-Equal-clause-told_where_equal g c = λ alike.
    let same = found_same _ _ _ (c.decide-decision.ensures.decided_where_alike alike).verdict in
    (λ some. same.0 c.in-Equal.is, λ h. refl)

pub returns-clause-told_where_equal : goal.returns-clause-told_where_equal
returns-clause-told_where_equal g c = λ alike.
    let same = found_same _ _ _ (c.decide-decision.ensures.decided_where_alike alike).verdict in
    (λ no. absurd (cc no), λ h. absurd (c.in_default.not-Equal (same.1 h)))
