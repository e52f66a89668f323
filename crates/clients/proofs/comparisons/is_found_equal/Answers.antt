use Rattle.std.proofs.Common.{refl}
use Rattle.clients.proofs.ComparisonLemmas.{reported_equal}
use Rattle.clients.proofs.comparisons.is_found_equal.Goals as goal

pub returns-in-Equal : goal.returns-in-Equal
returns-in-Equal c =
    let (s, (formed, bytes), report) = c.in-Compared.ensures.fault_or_report in
    (λ yes. (s, record { formed = formed; bytes = bytes }, (reported_equal s _ report).0 c.in-Equal.is), λ h. refl)

pub returns-in_default : goal.returns-in_default
returns-in_default c = (
  λ no. absurd (cc no),
  λ (s, sheet, same). absurd (c.in_default.not-Equal ((reported_equal s _ (c.in-Compared.ensures.reported_as_written s (sheet.formed, sheet.bytes))).1 same)),
)
