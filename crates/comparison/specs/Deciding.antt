-- What deciding two machines on a bench promises.
-- Assumes nothing.
use Rattle.std.specs.Prelude.{◌≡◌, List, ℕ, ◌++◌, Err, codes, decimal}
use Rattle.machine.specs.Show.{Show}
use Rattle.machine.specs.Meaning.{Meaning}
use Rattle.search.specs.declared.states.Verdict.{Verdict}
use Rattle.search.specs.declared.states.Verdict.TheVariants.{Unlike}
use Rattle.search.specs.declared.states.ShowRefusal.TheVariants.{NoShow}
use Rattle.search.specs.Rank.{FirstInRank}
use Rattle.search.specs.Search.{recorded, after}
use Rattle.search.specs.Calls.{Written, verdict_word}
use Rattle.search.specs.Truth.{TrueVerdict}
use Rattle.search.specs.Units.{TallyTells}
use Rattle.search.specs.Runs.{ShowTold}
use Rattle.bench.specs.declared.cells.TheConstants.{LIMIT}
use Rattle.comparison.specs.declared.deciding.Decision.{Decision}
use Rattle.comparison.specs.declared.deciding.Tally.{Tally}

-- A tally is that of the search of two machines with this verdict; and what its numbers tell, said of the first shows of the joint
-- positions that it counts as recorded, which are the first in rank.
pub record TallyOf (l r : Meaning) (v : Verdict) (t : Tally) : Type 0 where
  pub worked : t.worked ≡ (after l r LIMIT LIMIT).worked
  pub recorded : t.recorded ≡ recorded (after l r LIMIT LIMIT)
  pub shows : ℕ → Show
  pub first : FirstInRank l.steps r.steps t.recorded shows
  pub tells : TallyTells l r LIMIT shows t.worked t.recorded v

-- Of machines with equally many cues: the verdict is the true one, the tally is that of the search, and the show found is the first
-- that divides the machines. The buffer held the first bytes before, and holds the second now.
pub record Decided {L R : Type 0} (l r : Meaning) (d : Decision L R) (before now' : List ℕ) : Type 0 where
  pub verdict : TrueVerdict l r LIMIT d.verdict
  pub tally : TallyOf l r d.verdict d.tally
  pub show : ShowTold l r LIMIT d.verdict before (Written d.length now')

-- Of machines with different cue counts: nothing is compared, and the buffer is as it was.
pub record NotCompared {L R : Type 0} (d : Decision L R) (before now' : List ℕ) : Type 0 where
  pub verdict : d.verdict ≡ Unlike
  pub worked : d.tally.worked ≡ 0
  pub recorded : d.tally.recorded ≡ 0
  pub show : d.length ≡ Err NoShow
  pub buffer : now' ≡ before

-- What is printed of a tally, and of a verdict with its tally.
abbrev pub tally_text : Tally → List ℕ
tally_text t = decimal t.worked ++ codes " " ++ decimal t.recorded

abbrev pub decision_text : Verdict → Tally → List ℕ
decision_text v t = verdict_word v ++ codes " " ++ tally_text t
