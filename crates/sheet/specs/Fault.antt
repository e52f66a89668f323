-- What is due in each line of a sheet, and which fault a sheet has: the first in reading order.
-- Assumes nothing.
use Rattle.std.specs.Prelude.{◌≡◌, ℕ, ◌<◌, ◌≤◌, ◌⊎◌, suc, List, [], ◌∷◌, ◌++◌, length, Option, Some, option_map, if◌then◌else◌, nat_lt, ⊤}
use Rattle.rules.specs.declared.templates.Template.{Template}
use Rattle.rules.specs.declared.templates.Arguments.{Arguments}
use Rattle.rules.specs.declared.templates.Arguments.TheVariants.{TwoCues}
use Rattle.rules.specs.Naming.{template_number, template_word, arguments_of}
use Rattle.rules.specs.Rule.{Terms}
use Rattle.book.specs.Draft.{NotAdded}
use Rattle.book.specs.Held.{most_rules}
use Rattle.sheet.specs.declared.faults.Fault.{Fault}
use Rattle.sheet.specs.declared.faults.ReaderRefusal.TheVariants.{TooLong, NotInForm, SectionCountOutside, NameTwice, NoSuchWord, NoSuchName, LeftOver}
use Rattle.sheet.specs.declared.faults.Refusal.{Refusal}
use Rattle.sheet.specs.declared.faults.Refusal.TheVariants.{Reader, Draft}
use Rattle.sheet.specs.Names.{Named}
use Rattle.sheet.specs.Sheet.{Beginning, Opening, InCues, InLeft, InRight, lines, begins, InOrder, cues_word, left_word, right_word, section_line, name_line, argument_fields, most_names, most_bytes}
use Rattle.sheet.specs.Text.{Text, NameForm, WordForm, most_count, first_line, fields}

-- What is due: a section's line, by its word and the limits of its count; a name, after these names; a rule over these names, after
-- these rules of its book; or nothing more.
pub data Due : Type 0 where
  SectionDue : Text → ℕ → ℕ → Due
  NameDue : List Text → Due
  RuleDue : List Text → List Terms → Due
  EndDue : Due

abbrev pub due : Beginning → Due
due Opening = SectionDue cues_word 1 most_names
due (InCues n names) = if nat_lt (length names) n then NameDue names else SectionDue left_word 0 most_rules
due (InLeft names n rules) = if nat_lt (length rules) n then RuleDue names rules else SectionDue right_word 0 most_rules
due (InRight names left n rules) = if nat_lt (length rules) n then RuleDue names rules else EndDue

-- The fields of the line that stands first in what is left of the sheet, where a line stands there.
abbrev pub line_of : Text → Option (List Text)
line_of rest = option_map fields (first_line rest)

-- The line is that of a section, with a count n of which this is so.
abbrev pub IsSection : Text → (ℕ → Type 0) → Option (List Text) → Type 0
IsSection word P line = (n : ℕ) × (n ≤ most_count) × (line ≡ Some (section_line word n)) × P n

-- The line is that of a name x of which this is so.
abbrev pub IsName : (Text → Type 0) → Option (List Text) → Type 0
IsName P line = (x : Text) × NameForm x × (line ≡ Some (name_line x)) × P x

-- The line begins with a field w of which this is so, and these follow.
abbrev pub BeginsWith : (Text → List Text → Type 0) → Option (List Text) → Type 0
BeginsWith P line = (w : Text) × (fs : List Text) × (line ≡ Some (w ∷ fs)) × P w fs

-- Fields are arguments, in number and form: names x and y and a count n, as many of them as are taken.
pub record IsArguments (taken : Arguments) (fs : List Text) (x y : Text) (n : ℕ) : Type 0 where
  pub are : fs ≡ argument_fields taken x y n
  pub first : NameForm x
  pub second : taken ≡ TwoCues → NameForm y
  pub count : n ≤ most_count

-- Names x and y, as many as are taken, are those of cues a and b.
abbrev pub AreNames : List Text → Arguments → Text → Text → ℕ → ℕ → Type 0
AreNames names taken x y a b = Named names x a × (taken ≡ TwoCues → Named names y b)

-- The line is that of a rule of template t with arguments x, y and n of which this is so.
abbrev pub IsRule : (Template → Text → Text → ℕ → Type 0) → Option (List Text) → Type 0
IsRule P line = (t : Template) × (fs : List Text) × (line ≡ Some (template_word t ∷ fs)) × (x y : Text) × (n : ℕ) × IsArguments (arguments_of t) fs x y n × P t x y n

-- Why a section's line fails: it is missing or not of its form; or its count is outside the limits.
abbrev pub SectionFails : Text → ℕ → ℕ → Option (List Text) → Refusal → Type 0
SectionFails word least most line (Reader NotInForm) = IsSection word (λ n. ⊤) line → ⊥
SectionFails word least most line (Reader SectionCountOutside) = IsSection word (λ n. (least ≤ n) × (n ≤ most) → ⊥) line
SectionFails word least most line r = ⊥

-- Why a name's line fails: it is missing or not of its form; or the name stands already.
abbrev pub NameFails : List Text → Option (List Text) → Refusal → Type 0
NameFails names line (Reader NotInForm) = IsName (λ x. ⊤) line → ⊥
NameFails names line (Reader NameTwice) = IsName (λ x. (c : ℕ) × Named names x c) line
NameFails names line r = ⊥

-- Why a rule's line fails: it is missing, or its first field is no word; or no template has this word; or its other fields are not
-- those of the template in number and form; or a cue has no such name; or the draft turns the rule down.
abbrev pub RuleFails : List Text → List Terms → Option (List Text) → Refusal → Type 0
RuleFails names rules line (Reader NotInForm) = (BeginsWith (λ w fs. WordForm w) line → ⊥) ⊎
    BeginsWith (λ w fs. (t : Template) × (w ≡ template_word t) × ((x y : Text) (n : ℕ) → IsArguments (arguments_of t) fs x y n → ⊥)) line
RuleFails names rules line (Reader NoSuchWord) = BeginsWith (λ w fs. WordForm w × ((t : Template) → w ≡ template_word t → ⊥)) line
RuleFails names rules line (Reader NoSuchName) = IsRule (λ t x y n. (a b : ℕ) → AreNames names (arguments_of t) x y a b → ⊥) line
RuleFails names rules line (Draft e) = IsRule (λ t x y n. (a b : ℕ) × AreNames names (arguments_of t) x y a b
    × NotAdded e (record { cues = length names; rules = rules }) (template_number t) a b n) line
RuleFails names rules line r = ⊥

-- Why what is due is not what stands first in the rest of the sheet: a line fails; or something stands where nothing is due.
abbrev pub Fails : Due → Text → Refusal → Type 0
Fails (SectionDue word least most) rest r = SectionFails word least most (line_of rest) r
Fails (NameDue names) rest r = NameFails names (line_of rest) r
Fails (RuleDue names rules) rest r = RuleFails names rules (line_of rest) r
Fails EndDue rest r = (r ≡ Reader LeftOver) × (rest ≡ [] → ⊥)

-- A fault in a line: all that stands before it is in order, and it is the next line, which fails.
pub record FaultInLine (sheet : Text) (f : Fault) : Type 0 where
  pub before : Beginning
  pub rest : Text
  pub order : InOrder before
  pub stands : sheet ≡ begins before ++ rest
  pub line : f.line ≡ suc (length (lines before))
  pub fails : Fails (due before) rest f.refusal

-- The fault of a sheet: it is too long, which belongs to line 0; or else a line fails.
abbrev pub FaultOf : Text → Fault → Type 0
FaultOf sheet f = ((most_bytes < length sheet) × (f.refusal ≡ Reader TooLong) × (f.line ≡ 0)) ⊎ ((length sheet ≤ most_bytes) × FaultInLine sheet f)
