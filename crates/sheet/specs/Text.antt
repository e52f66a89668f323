-- The bytes of a sheet: its lines, the fields of a line, and the forms that fields have.
-- Assumes nothing.
use Rattle.std.specs.Prelude.{◌≡◌, ℕ, ◌≤◌, ◌⊎◌, List, [], ◌∷◌, ◌++◌, length, All, Option, Some, None, MatchOption, eqb, decimal}
use Rattle.std.specs.List.{slice_split, join_with_byte}

-- A text is a list of bytes.
abbrev pub Text : Type 0
Text = List ℕ

abbrev pub line_end : ℕ
line_end = 10

abbrev pub space : ℕ
space = 32

abbrev pub hyphen : ℕ
hyphen = 45

abbrev pub IsDigit : ℕ → Type 0
IsDigit b = (48 ≤ b) × (b ≤ 57)

abbrev pub IsCapital : ℕ → Type 0
IsCapital b = (65 ≤ b) × (b ≤ 90)

abbrev pub IsSmall : ℕ → Type 0
IsSmall b = (97 ≤ b) × (b ≤ 122)

-- The bytes of a name, and those of a word.
abbrev pub InName : ℕ → Type 0
InName b = IsCapital b ⊎ IsDigit b ⊎ (b ≡ hyphen)

abbrev pub InWord : ℕ → Type 0
InWord b = IsSmall b ⊎ (b ≡ hyphen)

-- A name has 1 to 16 bytes; a word has some; a count is the decimal text of a number of at most three digits.
abbrev pub longest_name : ℕ
longest_name = 16

pub record NameForm (x : Text) : Type 0 where
  pub some : 1 ≤ length x
  pub short : length x ≤ longest_name
  pub bytes : All InName x

pub record WordForm (x : Text) : Type 0 where
  pub some : 1 ≤ length x
  pub bytes : All InWord x

abbrev pub most_count : ℕ
most_count = 999

-- Reading a text as a count: the number of which it is the decimal text, or none where it has not that form.
abbrev pub IsCount : Option ℕ → Text → Type 0
IsCount found x = MatchOption found ((n : ℕ) → n ≤ most_count → x ≡ decimal n → ⊥) (λ n. (n ≤ most_count) × (x ≡ decimal n))

-- The parts of a text between the bytes of one kind.
abbrev pub parts : ℕ → Text → List Text
parts byte x = slice_split (λ b. eqb b byte) x

-- The line that stands first, without its end. What has no line end behind it is no line.
abbrev pub leading : List Text → Option Text
leading [] = None
leading (x ∷ []) = None
leading (x ∷ y ∷ more) = Some x

abbrev pub first_line : Text → Option Text
first_line rest = leading (parts line_end rest)

-- A line is read as the fields between its spaces, and written as its fields with a space between each two, and a line end.
abbrev pub fields : Text → List Text
fields x = parts space x

abbrev pub written_line : List Text → Text
written_line fs = join_with_byte space fs ++ line_end ∷ []
