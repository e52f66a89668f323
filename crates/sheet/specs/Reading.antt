-- What reading a sheet answers.
-- Assumes nothing.
use Rattle.std.specs.Prelude.{◌≡◌, ℕ, ◌+◌, ◌≤◌, ◌⊎◌, ◌↔◌, List, length, take, slice_get, Some, Ok, Err, Result, MatchResult}
use Rattle.book.specs.declared.drafts.DraftRefusal.{DraftRefusal}
use Rattle.book.specs.declared.drafts.DraftRefusal.TheVariants as draft
use Rattle.book.specs.Draft.{draft_content}
use Rattle.sheet.specs.declared.faults.Fault.{Fault}
use Rattle.sheet.specs.declared.fields.Field.{Field}
use Rattle.sheet.specs.declared.fields.Field.TheVariants.{Name}
use Rattle.sheet.specs.declared.sheets.Sheet.{Sheet}
use Rattle.sheet.specs.declared.stretches.Stretch.{Stretch}
use Rattle.sheet.specs.declared.faults.Refusal.TheVariants as refusal
use Rattle.sheet.specs.Fault.{FaultOf}
use Rattle.sheet.specs.Names.{fields_of, names_of}
use Rattle.sheet.specs.Sheet.{Comparison, InCues, begins, WellFormed, written}
use Rattle.sheet.specs.Text.{Text}

-- The name of cue c stands in line c + 2, behind all lines before.
abbrev pub InItsLine : List Text → ℕ → Field → Type 0
InItsLine names c f = (s : Stretch) × (f ≡ Name s) × (s.line ≡ c + 2) × (s.at ≡ length (begins (InCues (length names) (take c names))))

-- A sheet, as it was read, holds what this says: these names, each where it stands, and two drafts with these rules, in this order,
-- for as many cues as there are names.
pub record Holds (r : Sheet) (s : Comparison) : Type 0 where
  pub names : names_of r.names ≡ s.names
  pub places : (c : ℕ) (f : Field) → slice_get (fields_of r.names) c ≡ Some f → InItsLine s.names c f
  pub left : draft_content r.left ≡ record { cues = length s.names; rules = s.left }
  pub right : draft_content r.right ≡ record { cues = length s.names; rules = s.right }

-- A sheet, as it was read, holds what these bytes say: that is well formed, and written so.
abbrev pub HoldsWritten : Sheet → Text → Type 0
HoldsWritten r sheet = (s : Comparison) × Holds r s × WellFormed s × (written s ≡ sheet)

-- The answer is a sheet that holds this; the answer is this fault.
abbrev pub Accepts : Result Sheet Fault → Comparison → Type 0
Accepts (Ok r) s = Holds r s
Accepts (Err f) s = ⊥

abbrev pub Refuses : Result Sheet Fault → Fault → Type 0
Refuses (Ok r) f = ⊥
Refuses (Err e) f = e ≡ f

-- A sheet is accepted as what it says exactly when that is well formed and these bytes are how it is written.
abbrev pub AcceptedWhenWritten : Result Sheet Fault → Text → Type 0
AcceptedWhenWritten answer sheet = (s : Comparison) → Accepts answer s ↔ (WellFormed s × (written s ≡ sheet))

-- A sheet is refused with a fault exactly when it has that fault.
abbrev pub RefusedByItsFault : Result Sheet Fault → Text → Type 0
RefusedByItsFault answer sheet = (f : Fault) → Refuses answer f ↔ FaultOf sheet f

-- Of a draft's refusals, a sheet's fault is one of these two at most: a count outside its limits, or one cue twice.
unfoldable pub OnlyTheseOfADraft : Type 0
OnlyTheseOfADraft = (sheet : Text) (f : Fault) (e : DraftRefusal) → FaultOf sheet f → f.refusal ≡ refusal.Draft e → (e ≡ draft.CountOutside) ⊎ (e ≡ draft.SameCue)

-- No sheet that is well formed has more bytes than these, which are fewer than a sheet may have.
unfoldable pub NoneIsLonger : Type 0
NoneIsLonger = (s : Comparison) → WellFormed s → length (written s) ≤ 2329

-- Reading a sheet: what it says, and that it is written so; or its fault.
abbrev pub ReadRightly : Result Sheet Fault → Text → Type 0
ReadRightly answer sheet = MatchResult answer (λ r. HoldsWritten r sheet) (λ f. FaultOf sheet f)
