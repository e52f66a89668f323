use Rattle.std.proofs.Common.{refl}
use Rattle.clients.proofs.ComparisonLemmas.{in_line_0}
use Rattle.clients.proofs.comparisons.refused_in_line.Goals as goal

pub returns-in-Refused : goal.returns-in-Refused
returns-in-Refused c = in_line_0 _ _ ((c.in-Refused.ensures.refused_by_its_fault _).0 refl)
