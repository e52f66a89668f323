-- What the lines that are read do to the running show, and what is printed of them.
-- Assumes nothing.
use Rattle.std.specs.Prelude.{◌≡◌, ◌++◌, ℕ, List, [], Option, MatchOption, Ok, Err, Result, MatchResult, codes, decimal, min, if◌then◌else◌}
use Rattle.std.specs.Str.Parse.{IsNumeral, digits_value}
use Rattle.machine.specs.declared.tables.Table.{Table}
use Rattle.machine.specs.declared.watches.Watch.{Watch}
use Rattle.machine.specs.declared.watches.CueRefusal.{CueRefusal}
use Rattle.machine.specs.Table.{table_meaning}
use Rattle.machine.specs.Watch.{standing, cue_answer, cue_number, after_cue, after_cues, closed, watch_meaning}
use Rattle.examples.specs.Example.{LoadFirst, AllowsJust, cue_name}
use Rattle.play.specs.declared.Stand.{Stand}
use Rattle.play.specs.declared.Answered.{Answered}
use Rattle.play.specs.declared.Ended.{Ended}

-- Of the shows of the three cues the watch allows just those that have a LOAD before every FLY.
abbrev pub FliesAfterLoad : Watch Table → Type 0
FliesAfterLoad w = AllowsJust (watch_meaning table_meaning w) LoadFirst

-- The number that is read on a line, if the line is one: 255 where it is more.
abbrev pub IsNumberOf : Option ℕ → List ℕ → Type 0
IsNumberOf r line = MatchOption r (¬ (IsNumeral 10 line)) (λ n. IsNumeral 10 line × (n ≡ min 255 (digits_value 10 line)))

-- The answer is the watch's own, and of a cue taken it tells where the watch stands then and whether the show may close there.
abbrev pub Told : Result Stand CueRefusal → Watch Table → Watch Table → ℕ → Type 0
Told r before after c = MatchResult r
    (λ s. (cue_answer table_meaning (standing before) c ≡ Ok tt) × (s.position ≡ (standing after).position) × (s.may_close ≡ (watch_meaning table_meaning after).closes s.position))
    (λ e. cue_answer table_meaning (standing before) c ≡ Err e)

-- A stand as it is printed.
unfoldable pub stand_text : Stand → List ℕ
stand_text s = codes "position " ++ decimal s.position ++ codes ", " ++ (if s.may_close then codes "may" else codes "may not") ++ codes " close"

-- A line that is no number: nothing was done.
abbrev pub NotCalled : Watch Table → Watch Table → List ℕ → Type 0
NotCalled before after line = ¬ (IsNumeral 10 line) × (standing after ≡ standing before)

-- A line that is a number: it was called, or 255 where it is more, and answered as the watch answers it.
pub record Called (a : Answered) (before after : Watch Table) (line : List ℕ) : Type 0 where
  pub numeral : IsNumeral 10 line
  pub kept : a.line.now ≡ line
  pub cue : a.cue ≡ min 255 (digits_value 10 line)
  pub told : Told a.answer before after a.cue
  pub moved : standing after ≡ after_cue table_meaning (standing before) a.cue

-- A line is called when it is a number, and else nothing was done.
abbrev pub CalledIfNumeral : Option Answered → Watch Table → Watch Table → List ℕ → Type 0
CalledIfNumeral r before after line = MatchOption r (NotCalled before after line) (λ a. Called a before after line)

-- What is printed of a line that is a number: of a cue taken the cue, its name and where the show stands; of one turned down the
-- line as it was read, and the refusal's number.
abbrev pub answer_text : List ℕ → ℕ → Result Stand CueRefusal → List ℕ
answer_text line c (Ok s) = decimal c ++ codes " " ++ cue_name c ++ codes ": " ++ stand_text s
answer_text line c (Err e) = line ++ codes ": refused " ++ decimal (cue_number e)

abbrev pub answered_text : Answered → List ℕ
answered_text a = answer_text a.line.now a.cue a.answer

-- A show that was closed, and what is printed of it.
abbrev pub EndedAs : Ended → Watch Table → Type 0
EndedAs e w = (e.taken ≡ (closed table_meaning (standing w)).taken) × (e.allowed ≡ (closed table_meaning (standing w)).allowed)

abbrev pub ended_text : Ended → List ℕ
ended_text e = codes "closed after " ++ decimal e.taken ++ codes " cues: " ++ (if e.allowed then [] else codes "not ") ++ codes "allowed"

-- Nothing was done to the watch but calls of cue, some or none.
abbrev pub OnlyCued : Watch Table → Watch Table → Type 0
OnlyCued before after = (calls : List ℕ) × (standing after ≡ after_cues table_meaning (standing before) calls)
