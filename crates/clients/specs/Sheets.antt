-- What uses of sheets say.
-- Assumes nothing.
use Rattle.std.specs.Prelude.{◌≡◌, ℕ, ◌<◌, [], ◌∷◌, ◌++◌, length, codes}
use Rattle.book.specs.Content.{Content}
use Rattle.book.specs.Draft.{draft_content}
use Rattle.book.specs.declared.drafts.DraftRefusal.{DraftRefusal}
use Rattle.sheet.specs.declared.faults.Fault.{Fault}
use Rattle.sheet.specs.declared.faults.Refusal.TheVariants as refusal
use Rattle.sheet.specs.declared.sheets.Sheet.{Sheet}
use Rattle.sheet.specs.Fault.{FaultOf}
use Rattle.sheet.specs.Names.{names_of}
use Rattle.sheet.specs.Sheet.{Comparison, WellFormed, written}
use Rattle.sheet.specs.Text.{Text, NameForm}

-- The sheet of one cue, which no rule is about, byte by byte.
abbrev pub one_cue_text : Text → Text
one_cue_text name = codes "cues 1\n" ++ name ++ codes "\nleft 0\nright 0\n"

-- A sheet is laid out as that of one cue with this name, which is in form.
abbrev pub IsLaidOut : Text → Text → Type 0
IsLaidOut sheet name = NameForm name × (sheet ≡ one_cue_text name)

-- A book for one cue without rules.
abbrev pub without_rules : Content
without_rules = record { cues = 1; rules = [] }

-- It is read as this: the name, and for each book a draft for one cue that holds no rule.
pub record IsOneCue (name : Text) (r : Sheet) : Type 0 where
  pub names : names_of r.names ≡ name ∷ []
  pub left : draft_content r.left ≡ without_rules
  pub right : draft_content r.right ≡ without_rules

-- A name stands at a byte of a sheet, with a line end behind it.
abbrev pub HasNameAt : Text → ℕ → Text → Type 0
HasNameAt sheet at name = (before after : Text) × (sheet ≡ before ++ (name ++ 10 ∷ after)) × (length before ≡ at)

-- A sheet is written as one that is well formed and names more cues than this.
abbrev pub NamesCue : Text → ℕ → Type 0
NamesCue sheet cue = (s : Comparison) × WellFormed s × (written s ≡ sheet) × (cue < length s.names)

-- What is at fault in a sheet is a rule that a draft turns down for this.
abbrev pub IsRefusedByADraft : Text → DraftRefusal → Type 0
IsRefusedByADraft sheet e = (f : Fault) × FaultOf sheet f × (f.refusal ≡ refusal.Draft e)
