-- The fields of a line as they are read one after another, and what each is read as.
-- Assumes nothing.
use Rattle.std.specs.Prelude.{◌≡◌, ℕ, ◌≤◌, ◌-◌, ◌+◌, ◌*◌, ◌^◌, List, [], ◌∷◌, length, get_or, All, Option, Some, None, MatchOption, ◌⊎◌, ◌<◌, ◌++◌}
use Rattle.rules.specs.declared.templates.Arguments.{Arguments}
use Rattle.rules.specs.declared.templates.Arguments.TheVariants.{CueAndCount, OneCue, TwoCues}
use Rattle.sheet.specs.declared.fields.Field.{Field}
use Rattle.sheet.specs.declared.fields.Field.TheVariants.{Name, Number}
use Rattle.sheet.specs.declared.stretches.Stretch.{Stretch}
use Rattle.sheet.specs.Sheet.{most_bytes}
use Rattle.sheet.specs.Text.{Text, IsDigit, IsCount, fields, parts}

-- A part ends where a sheet of the most bytes ends, or sooner.
abbrev pub InSheet : Stretch → Type 0
InSheet s = s.at + length s.text.now ≤ most_bytes

abbrev pub RestInSheet : Option Stretch → Type 0
RestInSheet rest = (s : Stretch) → rest ≡ Some s → InSheet s

-- The fields that are left of a line.
abbrev pub rest_in : Option Stretch → List Text
rest_in None = []
rest_in (Some s) = fields s.text.now

-- A part begins where the rest of a line does; and the rest follows a part, with one byte between.
abbrev pub Begins : Option Stretch → Stretch → Type 0
Begins rest s = (r : Stretch) × (rest ≡ Some r) × (s.line ≡ r.line) × (s.at ≡ r.at)

abbrev pub Follows : Stretch → Option Stretch → Type 0
Follows s rest = (r : Stretch) → rest ≡ Some r → (r.line ≡ s.line) × (r.at ≡ s.at + length s.text.now + 1)

-- Cutting a part at the first byte of a kind, where there is one: what stands before that byte, and what stands behind it, each with
-- its place.
abbrev pub CutAtFirst : Option (Stretch × Stretch) → ℕ → Stretch → Type 0
CutAtFirst found byte s = MatchOption found (parts byte s.text.now ≡ s.text.now ∷ [])
    (λ p. (parts byte s.text.now ≡ p.0.text.now ∷ parts byte p.1.text.now)
    × (s.text.now ≡ p.0.text.now ++ byte ∷ p.1.text.now) × (p.0.line ≡ s.line) × (p.0.at ≡ s.at)
    × (p.1.line ≡ s.line) × (p.1.at ≡ s.at + length p.0.text.now + 1))

-- Reading a part of a line as a field: this field, where that is so of the part; or none, where it is not.
abbrev pub ReadField : Option Field → Field → Type 0 → Type 0
ReadField answer field P = MatchOption answer (P → ⊥) (λ f. (f ≡ field) × P)

-- Reading a part of a line as a count: a field with the number whose decimal text the part is; or none, where it is no count.
abbrev pub ReadNumber : Option Field → Stretch → Type 0
ReadNumber answer s = MatchOption answer (IsCount None s.text.now) (λ f. (n : ℕ) × (f ≡ Number s n) × IsCount (Some n) s.text.now)

-- Digits alone, and a leading zero only where there is nothing else; and what digits are worth.
pub record NumeralForm (x : Text) : Type 0 where
  pub digits : All IsDigit x
  pub no_leading_zero : get_or x 0 0 ≡ 48 → length x ≡ 1

abbrev pub worth : Text → ℕ
worth [] = 0
worth (b ∷ more) = (b - 48) * 10 ^ length more + worth more

-- What digits are worth together, where there are one to three of them.
abbrev pub WorthOf : Option ℕ → Text → Type 0
WorthOf found x = MatchOption found ((length x ≡ 0) ⊎ (3 < length x)) (λ n. (1 ≤ length x) × (length x ≤ 3) × (n ≡ worth x))

-- What a rule's arguments are read as: a name, and a name or a count where a second is taken.
abbrev pub SecondIs : Arguments → Option Field → Text → ℕ → Type 0
SecondIs CueAndCount second y n = (s : Stretch) × (second ≡ Some (Number s n))
SecondIs OneCue second y n = second ≡ None
SecondIs TwoCues second y n = (s : Stretch) × (second ≡ Some (Name s)) × (s.text.now ≡ y)
