use Rattle.std.proofs.Common.{length}
use Rattle.clients.proofs.ComparisonLemmas.{at_most_one, none_told, two_told_apart}
use Rattle.clients.proofs.comparisons.recorded_of.Goals as goal

pub returns-in-Compared-clause-at_most_one_without_rules : goal.returns-in-Compared-clause-at_most_one_without_rules
returns-in-Compared-clause-at_most_one_without_rules c = λ s sheet left right.
    let report = c.in-Compared.ensures.reported_as_written s (sheet.formed, sheet.bytes) in
    at_most_one _ _ _ _ report.tally (λ t u cued also.
    (report.positions t u cued also).1 (none_told (length s.names) s.left t u left, none_told (length s.names) s.right t u right))

pub returns-in-Compared-clause-two_if_a_rule_tells_apart : goal.returns-in-Compared-clause-two_if_a_rule_tells_apart
returns-in-Compared-clause-two_if_a_rule_tells_apart c = λ s sheet same t u cued also apart.
    two_told_apart s _ (c.in-Compared.ensures.reported_as_written s (sheet.formed, sheet.bytes)) same t u cued also apart
