-- The text of a sheet's outcome is what is to be printed for the sheet, and no other is.
-- Assumes nothing.
use Rattle.std.proofs.Common.{◌≡◌, refl, sym, ap, ◌∙◌}
use Rattle.machine.specs.Meaning.{Meaning}
use Rattle.search.specs.declared.states.Verdict.{Verdict}
use Rattle.sheet.specs.Names.{names_of}
use Rattle.sheet.specs.Sheet.{Comparison}
use Rattle.sheet.specs.Text.{Text}
use Rattle.comparison.specs.declared.deciding.Tally.{Tally}
use Rattle.comparison.specs.declared.outcomes.Finding.{Finding}
use Rattle.comparison.specs.declared.outcomes.Outcome.{Outcome}
use Rattle.comparison.specs.declared.outcomes.Outcome.TheVariants.{Refused, Compared}
use Rattle.comparison.specs.declared.reports.Report.{Report}
use Rattle.comparison.specs.Books.{left_machine, right_machine}
use Rattle.comparison.specs.Deciding.{TallyOf}
use Rattle.comparison.specs.Finding.{FindingOf, verdict_of}
use Rattle.comparison.specs.Outcome.{ReportOf, RefusedByItsFault, ReportedAsWritten, OutcomeOf}
use Rattle.comparison.specs.Printing.{fault_text, report_text, outcome_text, PrintedFor, of_fault, of_books, JustPrinted}

-- Two machines have one tally.
one_tally : (l r : Meaning) (v w : Verdict) (a b : Tally) → TallyOf l r v a → TallyOf l r w b → a ≡ b
one_tally l r v w a b p q =
    ap (λ n. record { worked = n; recorded = a.recorded }) (p.worked ∙ sym q.worked) ∙ ap (λ n. record { worked = b.worked; recorded = n }) (p.recorded ∙ sym q.recorded)

-- Where a sheet is reported, the lines of what is found of it are those of the report.
report_told : (s : Comparison) (r : Report) (f : Finding) (t : Tally) → ReportOf s r → FindingOf s f → TallyOf (left_machine s) (right_machine s) (verdict_of f) t
    → report_text s.names f t ≡ report_text (names_of r.names) r.finding r.tally
report_told s r f t told found tally =
    ap (λ names. report_text names f t) (sym told.names)
    ∙ ap (λ g. report_text (names_of r.names) g t) (sym ((told.finding f).1 found))
    ∙ ap (report_text (names_of r.names) r.finding) (one_tally (left_machine s) (right_machine s) (verdict_of f) (verdict_of r.finding) t r.tally tally told.tally)

-- So what is to be printed is the outcome's text.
told_once : (o : Outcome) (sheet text : Text) → RefusedByItsFault o sheet → ReportedAsWritten o sheet → PrintedFor sheet text → text ≡ outcome_text o
told_once (Refused e) sheet text refused reported (of_fault f fault is) = is ∙ ap fault_text (sym ((refused f).1 fault))
told_once (Refused e) sheet text refused reported (of_books s says f found t tally is) = absurd (reported s says)
told_once (Compared r) sheet text refused reported (of_fault f fault is) = absurd ((refused f).1 fault)
told_once (Compared r) sheet text refused reported (of_books s says f found t tally is) = is ∙ report_told s r f t (reported s says) found tally

-- And it is to be printed.
told_rightly : (o : Outcome) (sheet : Text) → OutcomeOf o sheet → PrintedFor sheet (outcome_text o)
told_rightly (Refused f) sheet fault = of_fault f fault refl
told_rightly (Compared r) sheet (s, says, told) =
    of_books s says r.finding ((told.finding r.finding).0 refl) r.tally told.tally (ap (λ names. report_text names r.finding r.tally) told.names)

pub just_printed : (o : Outcome) (sheet : Text) → OutcomeOf o sheet → RefusedByItsFault o sheet → ReportedAsWritten o sheet → JustPrinted sheet (outcome_text o)
just_printed o sheet outcome refused reported x = (told_once o sheet x refused reported, λ e. rw e (told_rightly o sheet outcome))
