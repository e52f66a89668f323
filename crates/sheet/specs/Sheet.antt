-- What a sheet says, how it is written, and how much of one stands before a line.
-- Assumes nothing.
use Rattle.std.specs.Prelude.{ℕ, ◌≤◌, List, [], ◌∷◌, ◌++◌, length, map, All, flat_map, decimal, codes, ⊤}
use Rattle.rules.specs.declared.templates.Arguments.{Arguments}
use Rattle.rules.specs.declared.templates.Arguments.TheVariants.{CueAndCount, OneCue, TwoCues}
use Rattle.rules.specs.Form.{InForm}
use Rattle.rules.specs.Naming.{template_word, arguments_of}
use Rattle.rules.specs.Rule.{Terms}
use Rattle.book.specs.Draft.{CuesBelow}
use Rattle.book.specs.Held.{most_rules}
use Rattle.sheet.specs.Names.{Different, name_of}
use Rattle.sheet.specs.Text.{Text, NameForm, written_line}

-- What a sheet says: the names of the cues, and the rules of the two books. A rule's cues are places among the names.
pub record Comparison : Type 0 where
  pub names : List Text
  pub left : List Terms
  pub right : List Terms

-- The words of the sections, how many names there are at most, and how many bytes a sheet has at most.
abbrev pub cues_word : Text
cues_word = codes "cues"

abbrev pub left_word : Text
left_word = codes "left"

abbrev pub right_word : Text
right_word = codes "right"

abbrev pub most_names : ℕ
most_names = 32

abbrev pub most_bytes : ℕ
most_bytes = 16384

-- The fields of a section's line, of a name's, and of a rule's.
abbrev pub section_line : Text → ℕ → List Text
section_line word n = word ∷ decimal n ∷ []

abbrev pub name_line : Text → List Text
name_line x = x ∷ []

abbrev pub argument_fields : Arguments → Text → Text → ℕ → List Text
argument_fields CueAndCount x y n = x ∷ decimal n ∷ []
argument_fields OneCue x y n = x ∷ []
argument_fields TwoCues x y n = x ∷ y ∷ []

abbrev pub rule_line : List Text → Terms → List Text
rule_line names r = template_word r.template ∷ argument_fields (arguments_of r.template) (name_of names r.a) (name_of names r.b) r.n

-- What stands before a line: nothing; or the section of names with the names so far, of so many; or that section whole, and the
-- rules so far of so many of the left book; or the left book whole too, and the rules so far of so many of the right one.
pub data Beginning : Type 0 where
  Opening : Beginning
  InCues : ℕ → List Text → Beginning
  InLeft : List Text → ℕ → List Terms → Beginning
  InRight : List Text → List Terms → ℕ → List Terms → Beginning

-- The lines that stand there, each by its fields, and their bytes.
abbrev pub cues_lines : ℕ → List Text → List (List Text)
cues_lines n names = section_line cues_word n ∷ map name_line names

abbrev pub book_lines : Text → List Text → ℕ → List Terms → List (List Text)
book_lines word names n rules = section_line word n ∷ map (rule_line names) rules

abbrev pub lines : Beginning → List (List Text)
lines Opening = []
lines (InCues n names) = cues_lines n names
lines (InLeft names n rules) = cues_lines (length names) names ++ book_lines left_word names n rules
lines (InRight names left n rules) = cues_lines (length names) names ++ book_lines left_word names (length left) left ++ book_lines right_word names n rules

abbrev pub begins : Beginning → Text
begins b = flat_map written_line (lines b)

-- A rule is right for so many cues: its cues are below the count, and its arguments are in form.
abbrev pub RuleRight : ℕ → Terms → Type 0
RuleRight count r = CuesBelow count r.template r.a r.b × InForm (arguments_of r.template) r.a r.b r.n

-- Names are in order in a section of n: n is 1 to 32, there are at most n, they are in form, and no two of them are the same.
pub record NamesInOrder (n : ℕ) (names : List Text) : Type 0 where
  pub some : 1 ≤ n
  pub few : n ≤ most_names
  pub room : length names ≤ n
  pub forms : All NameForm names
  pub different : Different names

-- Rules are in order in a section of n: n is at most 16, there are at most n, and they are right.
pub record RulesInOrder (names : List Text) (n : ℕ) (rules : List Terms) : Type 0 where
  pub few : n ≤ most_rules
  pub room : length rules ≤ n
  pub right : All (RuleRight (length names)) rules

-- What stands before a line is in order.
abbrev pub InOrder : Beginning → Type 0
InOrder Opening = ⊤
InOrder (InCues n names) = NamesInOrder n names
InOrder (InLeft names n rules) = NamesInOrder (length names) names × RulesInOrder names n rules
InOrder (InRight names left n rules) = NamesInOrder (length names) names × RulesInOrder names (length left) left × RulesInOrder names n rules

-- A whole sheet, and its bytes.
abbrev pub whole : Comparison → Beginning
whole s = InRight s.names s.left (length s.right) s.right

abbrev pub written : Comparison → Text
written s = begins (whole s)

-- What a sheet says is well formed when all its lines are in order.
-- No such sheet is too long, as reading one says, so that the limit takes no well-formed sheet away.
abbrev pub WellFormed : Comparison → Type 0
WellFormed s = InOrder (whole s)
