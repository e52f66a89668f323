-- What uses of comparisons say.
-- Assumes nothing.
use Rattle.std.specs.Prelude.{◌≡◌, ◌≢◌, ℕ, ◌<◌, ◌≤◌, ◌⊎◌, List, [], ◌++◌, length, take, Some, slice_get, Option}
use Rattle.machine.specs.Show.{Show, Cued}
use Rattle.machine.specs.Meaning.{Stepping}
use Rattle.rules.specs.Rule.{Terms, HoldsOf}
use Rattle.search.specs.Rank.{jointly}
use Rattle.sheet.specs.Sheet.{Comparison, WellFormed, written}
use Rattle.sheet.specs.Text.{Text}
use Rattle.comparison.specs.Books.{left_machine, right_machine}

-- These bytes are the sheet that says this.
pub record IsSheetOf (sheet : Text) (s : Comparison) : Type 0 where
  pub formed : WellFormed s
  pub bytes : written s ≡ sheet

-- Two shows of a sheet lead its two books to one joint position.
abbrev pub OneJoint : Comparison → Show → Show → Type 0
OneJoint s t u = jointly (left_machine s).steps (right_machine s).steps t ≡ jointly (left_machine s).steps (right_machine s).steps u

-- Where neither book has a rule, so many joint positions are one at most.
abbrev pub AtMostOneWithoutRules : Text → ℕ → Type 0
AtMostOneWithoutRules sheet n = (s : Comparison) → IsSheetOf sheet s → s.left ≡ [] → s.right ≡ [] → n ≤ 1

-- So many shows lead the two books to as many joint positions.
pub record ManyJoints (s : Comparison) (n : ℕ) : Type 0 where
  pub shows : ℕ → Show
  pub cued : (i : ℕ) → i < n → Cued (length s.names) (shows i)
  pub apart : (i j : ℕ) → i < j → j < n → OneJoint s (shows i) (shows j) → ⊥

-- Of two books, no show of a sheet is allowed by the first alone: where all its rules hold, no rule of the second fails.
abbrev pub NoneAlone : Comparison → List Terms → List Terms → Type 0
NoneAlone s first second = (t : Show) → Cued (length s.names) t
    → ((i : ℕ) (r : Terms) → slice_get first i ≡ Some r → HoldsOf r t)
    → (i : ℕ) (r : Terms) → slice_get second i ≡ Some r → (HoldsOf r t → ⊥) → ⊥

-- Neither book of a sheet allows a show alone, and they have no more than 2,048 joint positions.
pub record AllowTheSame (s : Comparison) : Type 0 where
  pub left : NoneAlone s s.left s.right
  pub right : NoneAlone s s.right s.left
  pub few : ManyJoints s 2049 → ⊥

-- These bytes are a sheet of which that is so.
abbrev pub HasEqualBooks : Text → Type 0
HasEqualBooks sheet = (s : Comparison) × IsSheetOf sheet s × AllowTheSame s

-- A rule of either book holds of the first show and not of the second.
abbrev pub TellsApart : Comparison → Show → Show → Type 0
TellsApart s t u = (i : ℕ) × (r : Terms) × ((slice_get s.left i ≡ Some r) ⊎ (slice_get s.right i ≡ Some r)) × HoldsOf r t × (HoldsOf r u → ⊥)

-- Where the books are equal and a rule tells two shows apart, so many joint positions are two or more.
abbrev pub TwoIfToldApart : Text → ℕ → Type 0
TwoIfToldApart sheet n = (s : Comparison) → IsSheetOf sheet s → AllowTheSame s → (t u : Show) → Cued (length s.names) t → Cued (length s.names) u
    → TellsApart s t u → 2 ≤ n

-- Two machines have so many joint positions: there are so many shows that lead to as many, and every show leads to one of these.
pub record HaveJoints (l r : Stepping) (n : ℕ) : Type 0 where
  pub shows : ℕ → Show
  pub apart : (i j : ℕ) → i < j → j < n → jointly l r (shows i) ≢ jointly l r (shows j)
  pub every : (t : Show) → (i : ℕ) × (i < n) × (jointly l r t ≡ jointly l r (shows i))

-- Of a reader whose bytes are known, at most so many of them are read.
abbrev pub TakesAtMost : ℕ → (there left : Option Text) → Type 0
TakesAtMost most there left = (all : Text) → there ≡ Some all → (read rest : Text) × (left ≡ Some rest) × (all ≡ read ++ rest) × (length read ≤ most)

-- Of a reader whose bytes are known, just the first so many are read, or all where there are no more.
abbrev pub TakesFirst : ℕ → (there left : Option Text) → Type 0
TakesFirst most there left = (all : Text) → there ≡ Some all → (rest : Text) × (left ≡ Some rest) × (all ≡ take most all ++ rest)

-- A writer whose bytes are known holds the same.
abbrev pub HoldsTheSame : (before after : Option Text) → Type 0
HoldsTheSame before after = (bytes : Text) → before ≡ Some bytes → after ≡ Some bytes
