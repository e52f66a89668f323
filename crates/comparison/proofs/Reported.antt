-- What is reported of a sheet that was read, from what is found of its two books.
-- Assumes nothing.
use Rattle.std.proofs.Common.{◌≡◌, ℕ, ◌<◌, inl, inr, List, length, All, ap, ◌∙◌, arith}
use Rattle.std.specs.Str.{IsAscii}
use Rattle.std.proofs.lemmas.Bool.{cases_lt}
use Rattle.std.proofs.lemmas.List.{get_or_past}
use Rattle.search.specs.declared.states.Joint.{Joint}
use Rattle.book.specs.Content.{Content}
use Rattle.book.specs.Draft.{draft_content}
use Rattle.book.specs.Book.{content_meaning, AllowsWhatHolds, OnePosition}
use Rattle.sheet.specs.declared.sheets.Sheet.{Sheet}
use Rattle.sheet.specs.Names.{names_of}
use Rattle.sheet.specs.Reading.{Holds}
use Rattle.sheet.specs.Sheet.{Comparison}
use Rattle.sheet.specs.Text.{Text, InName, NameForm}
use Rattle.comparison.specs.declared.reports.Report.{Report}
use Rattle.comparison.specs.Books.{left_book, right_book, left_machine, right_machine, JointPositions}
use Rattle.comparison.specs.Deciding.{TallyOf}
use Rattle.comparison.specs.Finding.{MachinesFinding, verdict_of}
use Rattle.comparison.specs.Outcome.{ReportOf}
use Rattle.comparison.proofs.JustFound.{just_found}

-- Names in form are plain text.
plain_byte : (b : ℕ) → InName b → b < 128
plain_byte b form = elim form [ inl capital ↦ omega (arith, capital) | inr other ↦ elim other [ inl digit ↦ omega (arith, digit) | inr e ↦ omega (arith, e) ] ]

plain_name : (x : Text) → NameForm x → IsAscii x
plain_name x form i = elim (cases_lt i (length x)) [ inl here ↦ plain_byte _ (form.bytes i 0 here) | inr past ↦ rw (get_or_past x i 0 past) (omega arith) ]

pub plain_names : (names : List Text) → All NameForm names → All IsAscii names
plain_names names forms k d here = plain_name _ (forms k d here)

-- Two joint positions are one when both sides are.
same_joint : (p q : Joint) → p.left ≡ q.left → p.right ≡ q.right → p ≡ q
same_joint p q e f = ap (λ x. record { left = x; right = p.right }) e ∙ ap (λ y. record { left = q.left; right = y }) f

-- So they are told apart by the rules of either book.
joint_positions : (s : Comparison) → OnePosition (left_machine s).steps (left_book s) → OnePosition (right_machine s).steps (right_book s) → JointPositions s
joint_positions s lefts rights t u here also = (
  λ e. ((lefts t u here also).0 (ap (λ j. j.left) e), (rights t u here also).0 (ap (λ j. j.right) e)),
  λ same. same_joint _ _ ((lefts t u here also).1 same.0) ((rights t u here also).1 same.1),
)

-- What is known of two books by their contents, and reported of them.
pub record Known (c d : Content) (rep : Report) : Type 0 where
  pub allows : AllowsWhatHolds (content_meaning c) c
  pub positions : OnePosition (content_meaning c).steps c
  pub also_allows : AllowsWhatHolds (content_meaning d) d
  pub also_positions : OnePosition (content_meaning d).steps d
  pub finding : MachinesFinding (content_meaning c) (content_meaning d) rep.finding
  pub tally : TallyOf (content_meaning c) (content_meaning d) (verdict_of rep.finding) rep.tally

-- Where these are the sheet's books, it is the report of the sheet.
report_of_books : (s : Comparison) (rep : Report) → names_of rep.names ≡ s.names → Known (left_book s) (right_book s) rep → ReportOf s rep
report_of_books s rep names known = record {
  names = names;
  finding = just_found s known.allows known.also_allows rep.finding known.finding;
  tally = known.tally;
  positions = joint_positions s known.positions known.also_positions;
}

pub report_of : (rep : Report) (r : Sheet) (s : Comparison) (c d : Content) → Holds r s → c ≡ draft_content r.left → d ≡ draft_content r.right
    → names_of rep.names ≡ names_of r.names → Known c d rep → ReportOf s rep
report_of rep r s c d holds left right names known = report_of_books s rep (names ∙ holds.names) (rw (left ∙ holds.left, right ∙ holds.right) at known)
