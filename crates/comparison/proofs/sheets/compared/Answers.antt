use Rattle.comparison.specs.declared.outcomes.Outcome.TheVariants.{Refused, Compared}
use Rattle.comparison.proofs.OneText.{just_printed}
use Rattle.comparison.proofs.sheets.compared.Goals as goal

pub returns-in-Ok-clause-fault_or_report : goal.returns-in-Ok-clause-fault_or_report
returns-in-Ok-clause-fault_or_report c = let (s, holds, formed, written) = c.in-Ok.ensures.holds_what_is_written in (s, (formed, written), c.report.ensures s holds formed)

pub returns-in-Ok-clause-reported_as_written : goal.returns-in-Ok-clause-reported_as_written
returns-in-Ok-clause-reported_as_written c = λ s says. c.report.ensures s ((c.in-Ok.ensures.accepted_when_written s).1 says) says.0

pub returns-in-Ok-clause-just_this_printed : goal.returns-in-Ok-clause-just_this_printed
returns-in-Ok-clause-just_this_printed c = just_printed (Compared c.report.result) _ (returns-in-Ok-clause-fault_or_report c) c.in-Ok.ensures.refused_by_its_fault (returns-in-Ok-clause-reported_as_written c)

pub returns-in-Err-clause-just_this_printed : goal.returns-in-Err-clause-just_this_printed
returns-in-Err-clause-just_this_printed c = just_printed (Refused c.in-Err.fault) _ c.in-Err.ensures.holds_what_is_written c.in-Err.ensures.refused_by_its_fault (λ s says. (c.in-Err.ensures.accepted_when_written s).1 says)
