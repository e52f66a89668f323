-- What comparing the two books of a sheet finds, said of its shows and its rules.
-- Assumes nothing.
use Rattle.std.specs.Prelude.{ℕ, ◌<◌, Option, Some, None, IfSome}
use Rattle.machine.specs.Show.{Show}
use Rattle.machine.specs.Meaning.{Meaning}
use Rattle.search.specs.declared.states.Verdict.{Verdict}
use Rattle.search.specs.declared.states.Verdict.TheVariants as verdict
use Rattle.search.specs.Rank.{NoLater, MoreThan, AtMost, FirstInRank}
use Rattle.search.specs.Truth.{FirstDifference, AllEqual, TooMany}
use Rattle.bench.specs.declared.cells.TheConstants.{LIMIT}
use Rattle.sheet.specs.Sheet.{Comparison}
use Rattle.comparison.specs.declared.outcomes.Finding.{Finding}
use Rattle.comparison.specs.declared.outcomes.Finding.TheVariants.{Equal, Left, Right, Full}
use Rattle.comparison.specs.Books.{left_machine, right_machine, IsShow, OnlyLeft, OnlyRight, DividesBooks}

-- The verdict of a finding.
abbrev pub verdict_of : Finding → Verdict
verdict_of Equal = verdict.Equal
verdict_of (Left t) = verdict.Left
verdict_of (Right t) = verdict.Right
verdict_of Full = verdict.Full

-- The show found, where there is one; and that something is so of it.
abbrev pub shown : Finding → Option Show
shown (Left t) = Some t
shown (Right t) = Some t
shown f = None

abbrev pub IfShown : Finding → (Show → Type 0) → Type 0
IfShown f P = IfSome (shown f) P

-- What comparing two machines finds.
module _ (l r : Meaning) where
  -- The show is the first that divides the machines, and the machine of this verdict allows it; and it is not so that there are too
  -- many joint positions and none of the first divides.
  abbrev pub IsFirst : Verdict → Show → Type 0
  IsFirst v t = FirstDifference l r v t × (TooMany l r LIMIT → ⊥)

  abbrev pub MachinesFinding : Finding → Type 0
  MachinesFinding Equal = AllEqual l r LIMIT
  MachinesFinding (Left t) = IsFirst verdict.Left t
  MachinesFinding (Right t) = IsFirst verdict.Right t
  MachinesFinding Full = TooMany l r LIMIT

-- What comparing the two books of a sheet finds.
module _ (s : Comparison) where
  -- No show of any length divides the books.
  abbrev pub NoShowDivides : Type 0
  NoShowDivides = (t : Show) → IsShow s t → DividesBooks s t → ⊥

  -- There are k joint positions that are the first in rank, and none of their first shows divides the books.
  pub record NoneOfTheFirstDivides (k : ℕ) : Type 0 where
    pub shows : ℕ → Show
    pub first : FirstInRank (left_machine s).steps (right_machine s).steps k shows
    pub none : (i : ℕ) → i < k → DividesBooks s (shows i) → ⊥

  -- No show divides the books, and they have at most as many joint positions as a bench can record.
  abbrev pub AreEqual : Type 0
  AreEqual = NoShowDivides × AtMost (left_machine s).steps (right_machine s).steps LIMIT

  -- More joint positions than that, and of as many as are first in rank no one divides the books.
  abbrev pub AreTooMany : Type 0
  AreTooMany = MoreThan (left_machine s).steps (right_machine s).steps LIMIT × NoneOfTheFirstDivides LIMIT

  -- A show of the sheet, of which this is so, and every other that divides the books comes later.
  pub record FirstThatDivides (Only : Show → Type 0) (t : Show) : Type 0 where
    pub show : IsShow s t
    pub only : Only t
    pub first : (u : Show) → IsShow s u → DividesBooks s u → NoLater t u
    -- and it is not so that there are too many joint positions and none of the first divides
    pub within : AreTooMany → ⊥

  -- What is found.
  abbrev pub FindingOf : Finding → Type 0
  FindingOf Equal = AreEqual
  FindingOf (Left t) = FirstThatDivides (OnlyLeft s) t
  FindingOf (Right t) = FirstThatDivides (OnlyRight s) t
  FindingOf Full = AreTooMany
