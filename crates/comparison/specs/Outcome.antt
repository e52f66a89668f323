-- The outcome of a sheet.
-- Assumes nothing.
use Rattle.std.specs.Prelude.{◌≡◌, ◌↔◌}
use Rattle.sheet.specs.declared.faults.Fault.{Fault}
use Rattle.sheet.specs.Fault.{FaultOf}
use Rattle.sheet.specs.Names.{names_of}
use Rattle.sheet.specs.Sheet.{Comparison, WellFormed, written}
use Rattle.sheet.specs.Text.{Text}
use Rattle.comparison.specs.declared.outcomes.Finding.{Finding}
use Rattle.comparison.specs.declared.outcomes.Outcome.{Outcome}
use Rattle.comparison.specs.declared.outcomes.Outcome.TheVariants.{Refused, Compared}
use Rattle.comparison.specs.declared.reports.Report.{Report}
use Rattle.comparison.specs.Books.{left_machine, right_machine, JointPositions}
use Rattle.comparison.specs.Deciding.{TallyOf}
use Rattle.comparison.specs.Finding.{FindingOf, verdict_of}

-- A sheet says this: it is well formed, and the sheet is how it is written.
abbrev pub Says : Text → Comparison → Type 0
Says sheet s = WellFormed s × (written s ≡ sheet)

-- A report of what a sheet says: it has the sheet's names, what it finds is just what is so of the sheet, and its tally is that of
-- the two books, whose joint positions are told apart by the sheet's rules.
pub record ReportOf (s : Comparison) (r : Report) : Type 0 where
  pub names : names_of r.names ≡ s.names
  pub finding : (f : Finding) → (r.finding ≡ f) ↔ FindingOf s f
  pub tally : TallyOf (left_machine s) (right_machine s) (verdict_of r.finding) r.tally
  pub positions : JointPositions s

-- The outcome is this fault; the outcome is a report of this.
abbrev pub Refuses : Outcome → Fault → Type 0
Refuses (Refused e) f = e ≡ f
Refuses (Compared r) f = ⊥

abbrev pub Reports : Outcome → Comparison → Type 0
Reports (Refused e) s = ⊥
Reports (Compared r) s = ReportOf s r

-- A sheet is refused with a fault exactly when it has that fault.
abbrev pub RefusedByItsFault : Outcome → Text → Type 0
RefusedByItsFault o sheet = (f : Fault) → Refuses o f ↔ FaultOf sheet f

-- What a sheet says is reported.
abbrev pub ReportedAsWritten : Outcome → Text → Type 0
ReportedAsWritten o sheet = (s : Comparison) → Says sheet s → Reports o s

-- Every sheet is refused with its fault, or says what is reported.
abbrev pub OutcomeOf : Outcome → Text → Type 0
OutcomeOf (Refused f) sheet = FaultOf sheet f
OutcomeOf (Compared r) sheet = (s : Comparison) × Says sheet s × ReportOf s r
