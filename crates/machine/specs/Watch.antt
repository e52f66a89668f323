-- Watches: what a running one means, what its calls do, and what they do over a whole show.
-- Assumes nothing.
use Rattle.std.specs.Prelude.{◌≡◌, ℕ, ◌+◌, ◌≤◌, List, ◌++◌, length, take, fold, Ok, Err, filter, Result, nat_lt, codes, IsTrue, if◌then◌else◌}
use Rattle.std.specs.List.{AllByRecursion, scan}
use Rattle.machine.specs.Show.{Show, Cued}
use Rattle.machine.specs.Meaning.{Meaning, leads_to, allowed}
use Rattle.machine.specs.declared.watches.Watch.{Watch}
use Rattle.machine.specs.declared.watches.Slip.{Slip}
use Rattle.machine.specs.declared.watches.Closed.{Closed}
use Rattle.machine.specs.declared.watches.CueRefusal.{CueRefusal}
use Rattle.machine.specs.declared.watches.CueRefusal.TheVariants.{NoSuchCue, ShowFull}

-- The most cues that a show takes.
abbrev pub longest : ℕ
longest = 10000

-- The published numbers of the refusals.
abbrev pub cue_number : CueRefusal → ℕ
cue_number NoSuchCue = 21
cue_number ShowFull = 22

-- What is printed of the refusals, whatever the options of the format.
abbrev pub cue_words : CueRefusal → List ℕ
cue_words NoSuchCue = codes "the number is not below the cue count"
cue_words ShowFull = codes "10,000 cues are taken"

-- Where a watch stands: its machine, the position reached and the number of cues taken.
pub record Standing (M : Type 0) : Type 0 where
  pub machine : M
  pub position : ℕ
  pub taken : ℕ

abbrev pub standing : {M : Type 0} → Watch M → Standing M
standing w = record { machine = w.machine; position = w.position; taken = w.taken }

-- The slip is spent: `close` has taken it back.
abbrev pub IsSpent : Slip → Type 0
IsSpent s = IsTrue s.spent

-- Of numbers, one after the other, those that are cues, up to the most that a show takes.
abbrev pub heard : ℕ → List ℕ → Show
heard count calls = take longest (filter (λ c. nat_lt c count) calls)

-- A machine started at another position.
abbrev pub started_at : Meaning → ℕ → Meaning
started_at m p = record m { steps = record m.steps { start = p } }

-- What the calls do, for machines of any type, whose meaning is given.
module _ {M : Type 0} (meaning : M → Meaning) where
  -- A running watch means its machine with another start: the position that the show has reached.
  abbrev pub watch_meaning : Watch M → Meaning
  watch_meaning w = started_at (meaning w.machine) w.position

  -- A begun show stands at the machine's start with no cue taken.
  abbrev pub begun : M → Standing M
  begun x = record { machine = x; position = (meaning x).steps.start; taken = 0 }

  -- How a cue is answered: turned down when it is not below the count, then when the show is full.
  abbrev pub cue_answer : Standing M → ℕ → Result Unit CueRefusal
  cue_answer w c =
      if nat_lt c (meaning w.machine).steps.cues
      then if nat_lt w.taken longest then Ok tt else Err ShowFull
      else Err NoSuchCue

  -- A cue that is taken moves the watch; one that is turned down changes nothing.
  abbrev pub moved : Result Unit CueRefusal → Standing M → ℕ → Standing M
  moved (Ok _) w c = record w { position = (meaning w.machine).steps.next w.position c; taken = w.taken + 1 }
  moved (Err e) w c = w

  abbrev pub after_cue : Standing M → ℕ → Standing M
  after_cue w c = moved (cue_answer w c) w c

  -- Closing gives back the machine, the number of cues taken, and whether the show may close at the position reached.
  abbrev pub closed : Standing M → Closed M
  closed w = record { machine = w.machine; taken = w.taken; allowed = (meaning w.machine).closes w.position }

  -- Where a watch stands after calls of cue, one after the other, and how the calls are answered.
  abbrev pub after_cues : Standing M → List ℕ → Standing M
  after_cues w calls = fold after_cue w calls

  abbrev pub answers : Standing M → List ℕ → List (Result Unit CueRefusal)
  answers w calls = scan after_cue cue_answer w calls

  -- The show that a watch over the machine x hears of calls of cue.
  abbrev pub heard_by : M → List ℕ → Show
  heard_by x calls = heard (meaning x).steps.cues calls

  -- A watch over x that stands where a show leads, all its cues taken.
  abbrev pub stands_after : M → Show → Standing M
  stands_after x s = record { machine = x; position = leads_to (meaning x).steps s; taken = length s }

  -- A show over x that is closed: the machine unchanged, the number of cues, and whether the machine allows the show.
  abbrev pub closed_after : M → Show → Closed M
  closed_after x s = record { machine = x; taken = length s; allowed = allowed (meaning x) s }

  -- The law over whole shows. A show is begun over the machine x, and cue is called any number of times with any numbers.
  pub record WholeShow (x : M) : Type 0 where
    -- the watch stands where the show that it heard leads
    pub stands : (calls : List ℕ) → after_cues (begun x) calls ≡ stands_after x (heard_by x calls)
    -- closed then, it answers as that show, closed
    pub closes : (calls : List ℕ) → closed (after_cues (begun x) calls) ≡ closed_after x (heard_by x calls)
    -- still running, it allows just those rests that the machine allows behind that show
    pub ahead : (calls : List ℕ) (w : Watch M) → standing w ≡ after_cues (begun x) calls → (rest : Show) → allowed (watch_meaning w) rest ≡ allowed (meaning x) (heard_by x calls ++ rest)
    -- a show of at most 10,000 cues is heard whole, and none of its cues is turned down
    pub whole : (s : Show) → Cued (meaning x).steps.cues s → length s ≤ longest → (heard_by x s ≡ s) × AllByRecursion (λ a. a ≡ Ok tt) (answers (begun x) s)
