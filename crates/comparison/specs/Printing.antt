-- What is printed of an outcome.
-- Assumes nothing.
use Rattle.std.specs.Prelude.{◌≡◌, ◌↔◌, ℕ, List, [], ◌∷◌, ◌++◌, length, flat_map, codes, decimal, Option, Some, None}
use Rattle.machine.specs.Show.{Show}
use Rattle.sheet.specs.declared.faults.Fault.{Fault}
use Rattle.sheet.specs.Fault.{FaultOf}
use Rattle.sheet.specs.Names.{names_of, name_of}
use Rattle.sheet.specs.Naming.{refusal_number, layer_of, layer_word}
use Rattle.sheet.specs.Sheet.{Comparison}
use Rattle.sheet.specs.Text.{Text, line_end}
use Rattle.comparison.specs.declared.deciding.Tally.{Tally}
use Rattle.comparison.specs.declared.outcomes.Finding.{Finding}
use Rattle.comparison.specs.declared.outcomes.Outcome.{Outcome}
use Rattle.comparison.specs.declared.outcomes.Outcome.TheVariants.{Refused, Compared}
use Rattle.comparison.specs.Books.{left_machine, right_machine}
use Rattle.comparison.specs.Deciding.{TallyOf, decision_text}
use Rattle.comparison.specs.Finding.{FindingOf, verdict_of, shown}
use Rattle.comparison.specs.Outcome.{Says}

-- A line ends with its byte.
abbrev pub line : Text → Text
line x = x ++ line_end ∷ []

-- A show: its length, and the names of its cues in order, each behind a space.
abbrev pub spaced_name : List Text → ℕ → Text
spaced_name names c = codes " " ++ name_of names c

abbrev pub show_text : List Text → Show → Text
show_text names t = decimal (length t) ++ flat_map (spaced_name names) t

-- The line of the show found, where there is one.
abbrev pub show_line : List Text → Option Show → Text
show_line names (Some t) = line (show_text names t)
show_line names None = []

-- The lines of a report, and the line of a fault.
abbrev pub report_text : List Text → Finding → Tally → Text
report_text names f t = line (decision_text (verdict_of f) t) ++ show_line names (shown f)

abbrev pub fault_text : Fault → Text
fault_text f = line (codes "refused " ++ decimal (refusal_number f.refusal) ++ codes " " ++ decimal f.line ++ codes " " ++ layer_word (layer_of f.refusal))

abbrev pub outcome_text : Outcome → Text
outcome_text (Refused f) = fault_text f
outcome_text (Compared r) = report_text (names_of r.names) r.finding r.tally

-- What is printed for a sheet: the line of its fault; or the lines of what is found of the books that it says, with their tally.
pub data PrintedFor (sheet text : Text) : Type 0 where
  of_fault : (f : Fault) → FaultOf sheet f → text ≡ fault_text f → PrintedFor sheet text
  of_books : (s : Comparison) → Says sheet s → (f : Finding) → FindingOf s f → (t : Tally) → TallyOf (left_machine s) (right_machine s) (verdict_of f) t
      → text ≡ report_text s.names f t → PrintedFor sheet text

-- This text is to be printed for a sheet, and no other.
abbrev pub JustPrinted : Text → Text → Type 0
JustPrinted sheet text = (x : Text) → PrintedFor sheet x ↔ (x ≡ text)
