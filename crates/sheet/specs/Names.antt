-- The names of cues: which are the same, and which cue a name is of.
-- Assumes nothing.
use Rattle.std.specs.Prelude.{Option, MatchOption, ◌≡◌, ℕ, ◌<◌, List, map, take, slice_get, Some, get_or, []}
use Rattle.sheet.specs.declared.fields.Field.{Field}
use Rattle.sheet.specs.declared.fields.Field.TheVariants.{Word, Name, Number}
use Rattle.sheet.specs.declared.names.Names.{Names}
use Rattle.sheet.specs.declared.stretches.Stretch.{Stretch}
use Rattle.sheet.specs.Text.{Text}

-- The part of the sheet where a field stands, its bytes, the line in which it stands and the byte at which it begins.
abbrev pub field_stretch : Field → Stretch
field_stretch (Word s) = s
field_stretch (Name s) = s
field_stretch (Number s n) = s

abbrev pub field_text : Field → Text
field_text f = (field_stretch f).text.now

abbrev pub field_line : Field → ℕ
field_line f = (field_stretch f).line

abbrev pub field_at : Field → ℕ
field_at f = (field_stretch f).at

-- The fields in which the names stand, in order, and the names.
abbrev pub fields_of : Names → List Field
fields_of ns = take ns.count ns.fields

abbrev pub names_of : Names → List Text
names_of ns = map field_text (fields_of ns)

-- Two names are the same when they have the same bytes.
abbrev pub SameName : Text → Text → Type 0
SameName x y = x ≡ y

-- Cue c has this name.
abbrev pub Named : List Text → Text → ℕ → Type 0
Named names x c = (y : Text) × (slice_get names c ≡ Some y) × SameName x y

-- Looking a name up: the first cue that has it, or none where none has it.
abbrev pub CueOf : Option ℕ → List Text → Text → Type 0
CueOf found names x = MatchOption found ((c : ℕ) → Named names x c → ⊥) (λ c. Named names x c × ((d : ℕ) → d < c → Named names x d → ⊥))

-- No two cues have one name.
abbrev pub Different : List Text → Type 0
Different names = (c d : ℕ) (x : Text) → Named names x c → Named names x d → c ≡ d

-- The name of a cue; of what is no cue, the empty text.
abbrev pub name_of : List Text → ℕ → Text
name_of names c = get_or names c []
