-- Lines that are read, and what is read of them.
-- Assumes nothing.
use Rattle.std.specs.Prelude.{◌≡◌, ℕ, ◌≤◌, ◌++◌, List, [], ◌∷◌, Option, Some, option_map, Result, MatchResult, MatchOption, min, ⊤}
use Rattle.rules.specs.declared.templates.Arguments.{Arguments}
use Rattle.rules.specs.declared.templates.Template.{Template}
use Rattle.rules.specs.Naming.{template_word}
use Rattle.sheet.specs.declared.faults.Refusal.{Refusal}
use Rattle.sheet.specs.declared.faults.ReaderRefusal.{ReaderRefusal}
use Rattle.sheet.specs.declared.faults.ReaderRefusal.TheVariants.{NotInForm, NoSuchWord}
use Rattle.sheet.specs.declared.fields.Field.{Field}
use Rattle.sheet.specs.declared.fields.Field.TheVariants.{Name, Number}
use Rattle.sheet.specs.declared.lines.Line.{Line}
use Rattle.sheet.specs.declared.names.Names.{Names}
use Rattle.sheet.specs.declared.stretches.Stretch.{Stretch}
use Rattle.sheet.specs.Fault.{NameFails, IsName, IsArguments, SectionFails}
use Rattle.sheet.specs.Fields.{rest_in, Begins, Follows, SecondIs}
use Rattle.sheet.specs.Names.{Named, field_text, fields_of, names_of}
use Rattle.sheet.specs.Sheet.{section_line, name_line}
use Rattle.sheet.specs.Text.{Text, NameForm, WordForm}

-- The fields that are left of a line, and those of a line where there is one.
abbrev pub rest_of : Line → List Text
rest_of l = rest_in l.rest

abbrev pub fields_in : Option Line → Option (List Text)
fields_in line = option_map rest_of line

-- The next field of what is left of a line, where one is left, and what is left behind it.
abbrev pub NextField : Option Stretch → Line → Line → Type 0
NextField found before after = MatchOption found ((rest_in before.rest ≡ []) × (after ≡ before))
    (λ s. (rest_in before.rest ≡ s.text.now ∷ rest_in after.rest) × Begins before.rest s × Follows s after.rest)

-- Reading a section's line: its count, within the limits; or why it fails.
abbrev pub ReadSection : Result ℕ Refusal → Text → ℕ → ℕ → Option (List Text) → Type 0
ReadSection answer word least most line = MatchResult answer
    (λ n. (least ≤ n) × (n ≤ most) × (line ≡ Some (section_line word n)))
    (λ r. SectionFails word least most line r)

-- Why a line does not begin with the word of a template: its first field is no word; or no template has this word.
abbrev pub NoTemplate : ReaderRefusal → List Text → Type 0
NoTemplate NotInForm fs = (w : Text) (more : List Text) → fs ≡ w ∷ more → WordForm w → ⊥
NoTemplate NoSuchWord fs = (w : Text) × (more : List Text) × (fs ≡ w ∷ more) × WordForm w × ((t : Template) → w ≡ template_word t → ⊥)
NoTemplate e fs = ⊥

-- Reading the word of a template, first in a line: the template, and what follows; or why that fails.
abbrev pub ReadTemplate : Result Template ReaderRefusal → List Text → List Text → Type 0
ReadTemplate answer fs after = MatchResult answer
    (λ t. fs ≡ template_word t ∷ after)
    (λ e. NoTemplate e fs)

-- Reading a rule's arguments: its fields, as a name and what follows it; or none, where they are not in number and form.
abbrev pub ReadArguments : Option (Field × Option Field) → Arguments → List Text → Type 0
ReadArguments answer taken fs = MatchOption answer
    ((x y : Text) (n : ℕ) → IsArguments taken fs x y n → ⊥)
    (λ p. (y : Text) × (n : ℕ) × IsArguments taken fs (field_text p.0) y n × SecondIs taken p.1 y n)

-- The name that follows is that of cue b, and b is 0 where none follows; the count that follows is k, or k is 255 where it is more,
-- and 0 where none follows.
abbrev pub SecondNamed : List Text → Option Field → ℕ → Type 0
SecondNamed names (Some (Name s)) b = Named names s.text.now b
SecondNamed names second b = b ≡ 0

abbrev pub SecondCounted : Option Field → ℕ → Type 0
SecondCounted (Some (Number s n)) k = k ≡ min n 255
SecondCounted second k = k ≡ 0

-- Looking up the names of a rule's arguments: cues and a count; or none, where a cue has no such name.
abbrev pub ReadCues : Option (ℕ × ℕ × ℕ) → List Text → Field → Option Field → Type 0
ReadCues answer names first second = MatchOption answer
    ((a b : ℕ) → Named names (field_text first) a → SecondNamed names second b → ⊥)
    (λ p. Named names (field_text first) p.0 × SecondNamed names second p.1 × SecondCounted second p.2)

-- A part begins where a line does.
abbrev pub StandsFirst : Option Line → Stretch → Type 0
StandsFirst line s = (l : Line) × (line ≡ Some l) × Begins l.rest s

-- The line is that of a name, which stands there.
pub record OnlyName (line : Option Line) (s : Stretch) : Type 0 where
  pub form : NameForm s.text.now
  pub reads : fields_in line ≡ Some (name_line s.text.now)
  pub stands : StandsFirst line s

-- Looking for a name that is all of a line: its field; or none, where the line has not that form.
abbrev pub FindsOnlyName : Option Field → Option Line → Type 0
FindsOnlyName found line = MatchOption found (IsName (λ x. ⊤) (fields_in line) → ⊥) (λ f. (s : Stretch) × (f ≡ Name s) × OnlyName line s)

-- Reading a name's line: the name, taken last; or why it fails, and the names are as they were.
abbrev pub ReadName : Result Unit Refusal → Option Line → Names → Names → Type 0
ReadName answer line before after = MatchResult answer
    (λ _. (s : Stretch) × OnlyName line s × ((c : ℕ) → Named (names_of before) s.text.now c → ⊥) × (fields_of after ≡ fields_of before ++ Name s ∷ []))
    (λ r. NameFails (names_of before) (fields_in line) r × (after ≡ before))
