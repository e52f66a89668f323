-- The two books of a sheet, the shows that divide them, and their joint positions, in the words of the sheet's own rules.
-- Assumes nothing.
use Rattle.std.specs.Prelude.{◌≡◌, ℕ, ◌⊎◌, ◌↔◌, length}
use Rattle.machine.specs.Show.{Show, Cued}
use Rattle.machine.specs.Meaning.{Meaning}
use Rattle.rules.specs.Rule.{Terms, HoldsOf}
use Rattle.book.specs.Content.{Content, RuleAt}
use Rattle.book.specs.Book.{content_meaning, AllHold, NotToldApart}
use Rattle.search.specs.Rank.{jointly}
use Rattle.sheet.specs.Sheet.{Comparison}

-- The two books of a sheet, and what they mean as machines.
abbrev pub left_book : Comparison → Content
left_book s = record { cues = length s.names; rules = s.left }

abbrev pub right_book : Comparison → Content
right_book s = record { cues = length s.names; rules = s.right }

abbrev pub left_machine : Comparison → Meaning
left_machine s = content_meaning (left_book s)

abbrev pub right_machine : Comparison → Meaning
right_machine s = content_meaning (right_book s)

-- A show of the sheet: all its numbers are cues that the sheet names.
abbrev pub IsShow : Comparison → Show → Type 0
IsShow s t = Cued (length s.names) t

-- Some rule of a book does not hold of a show.
abbrev pub SomeFails : Content → Show → Type 0
SomeFails b t = (i : ℕ) × (r : Terms) × RuleAt b i r × (HoldsOf r t → ⊥)

-- The rules of one book all hold of a show, and some rule of the other does not.
abbrev pub OnlyAllows : Content → Content → Show → Type 0
OnlyAllows b other t = AllHold b t × SomeFails other t

abbrev pub OnlyLeft : Comparison → Show → Type 0
OnlyLeft s t = OnlyAllows (left_book s) (right_book s) t

abbrev pub OnlyRight : Comparison → Show → Type 0
OnlyRight s t = OnlyAllows (right_book s) (left_book s) t

-- A show divides the two books.
abbrev pub DividesBooks : Comparison → Show → Type 0
DividesBooks s t = OnlyLeft s t ⊎ OnlyRight s t

-- The theorem of joint positions: two shows of a sheet lead to one of them exactly when no rule of either book tells the two apart,
-- whatever letters follow, be there a cue for them or not.
abbrev pub JointPositions : Comparison → Type 0
JointPositions s = (t u : Show) → IsShow s t → IsShow s u
    → (jointly (left_machine s).steps (right_machine s).steps t ≡ jointly (left_machine s).steps (right_machine s).steps u) ↔ (NotToldApart (left_book s) t u × NotToldApart (right_book s) t u)
