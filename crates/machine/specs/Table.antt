-- Tables: what one means, and what filling one does.
-- Assumes nothing.
use Rattle.std.specs.Prelude.{◌≡◌, ℕ, ◌+◌, ◌-◌, ◌*◌, ◌/◌, ◌%◌, ◌^◌, ◌<◌, ◌≤◌, Bool, false, ◌&&◌, ◌⊎◌, List, [], ◌∷◌, ◌++◌, length, replicate, Result, MatchResult, ◌==◌, nat_lt, slice_index, take, codes, if◌then◌else◌}
use Rattle.machine.specs.Show.{AllBelow}
use Rattle.machine.specs.Meaning.{Meaning}
use Rattle.machine.specs.declared.tables.Table.{Table}
use Rattle.machine.specs.declared.tables.FillRefusal.{FillRefusal}
use Rattle.machine.specs.declared.tables.FillRefusal.TheVariants.{StateCount, CueCount, Length, NoSuchState}

-- Bit i of a number, bit 0 the lowest, is set.
abbrev pub bit : ℕ → ℕ → Bool
bit n i = n / 2 ^ i % 2 == 1

-- A table means: start at state 0; state p and cue c lead to the byte in row p and column c; state p may close
-- where its bit is set. Where a position is no state, cues leave it where it is, and no show closes there.
abbrev pub table_meaning : Table → Meaning
table_meaning t = record {
  steps = record {
    cues = t.cues;
    start = 0;
    next = λ p c. if nat_lt p t.states && nat_lt c t.cues then slice_index t.next (p * t.cues + c) else p;
  };
  closes = λ p. nat_lt p t.states && bit t.closing p;
}

-- What a table is filled from: the two counts, the next states as bytes, row by row, a row for each state with a byte
-- for each cue, and a number whose set bits are the states that may close.
pub record Description : Type 0 where
  pub states : ℕ
  pub cues : ℕ
  pub next : List ℕ
  pub closing : ℕ

abbrev pub described : ℕ → ℕ → List ℕ → ℕ → Description
described s c bytes closing = record { states = s; cues = c; next = bytes; closing = closing }

-- The description that a table holds: of the places for next states, only those of its own states and cues.
abbrev pub description_of : Table → Description
description_of t = described t.states t.cues (take (t.states * t.cues) t.next) t.closing

-- What is asked of a description, in the order in which it is looked at.
abbrev pub StatesRight : Description → Type 0
StatesRight d = (1 ≤ d.states) × (d.states ≤ 64)

abbrev pub CuesRight : Description → Type 0
CuesRight d = (1 ≤ d.cues) × (d.cues ≤ 32)

abbrev pub LengthRight : Description → Type 0
LengthRight d = length d.next ≡ d.states * d.cues

-- Each byte and each closing bit names a state.
abbrev pub NamesRight : Description → Type 0
NamesRight d = AllBelow d.states d.next × (d.closing < 2 ^ d.states)

pub record Right (d : Description) : Type 0 where
  pub states : StatesRight d
  pub cues : CuesRight d
  pub length : LengthRight d
  pub names : NamesRight d

-- Why a description is turned down: the first of the four that fails.
abbrev pub TurnedDown : FillRefusal → Description → Type 0
TurnedDown StateCount d = StatesRight d → ⊥
TurnedDown CueCount d = StatesRight d × (CuesRight d → ⊥)
TurnedDown Length d = StatesRight d × CuesRight d × (LengthRight d → ⊥)
TurnedDown NoSuchState d = StatesRight d × CuesRight d × LengthRight d × (NamesRight d → ⊥)

-- The published numbers of the refusals.
abbrev pub fill_number : FillRefusal → ℕ
fill_number StateCount = 14
fill_number CueCount = 15
fill_number Length = 16
fill_number NoSuchState = 17

-- What is printed of the refusals, whatever the options of the format.
abbrev pub fill_words : FillRefusal → List ℕ
fill_words StateCount = codes "the state count is not 1 to 64"
fill_words CueCount = codes "the cue count is not 1 to 32"
fill_words Length = codes "there is not one byte for each state and cue"
fill_words NoSuchState = codes "a byte or a closing bit names no state"

-- The table holds exactly what is described, and 0 in the places beyond.
pub record Holds (t : Table) (d : Description) : Type 0 where
  pub states : t.states ≡ d.states
  pub cues : t.cues ≡ d.cues
  pub next : t.next ≡ d.next ++ replicate (2048 - length d.next) 0
  pub closing : t.closing ≡ d.closing

-- The described machine, in its own words: it starts at state 0, state p and cue c lead to byte p × cues + c, and state p
-- may close where bit p is set. What is no state or no cue moves nowhere, and what is no state may not close.
pub record Means (m : Meaning) (d : Description) : Type 0 where
  pub cues : m.steps.cues ≡ d.cues
  pub start : m.steps.start ≡ 0
  pub next : (p c : ℕ) → p < d.states → c < d.cues → m.steps.next p c ≡ slice_index d.next (p * d.cues + c)
  pub closes : (p : ℕ) → p < d.states → m.closes p ≡ bit d.closing p
  pub stays : (p c : ℕ) → (d.states ≤ p) ⊎ (d.cues ≤ c) → m.steps.next p c ≡ p
  pub bars : (p : ℕ) → d.states ≤ p → m.closes p ≡ false

-- A table holds a right description, and means it.
abbrev pub MeansWhatItHolds : Table → Type 0
MeansWhatItHolds t = Right (description_of t) × Means (table_meaning t) (description_of t)

-- How a description is answered: accepted when it is right, or else turned down.
abbrev pub LookedOver : Result Unit FillRefusal → Description → Type 0
LookedOver r d = MatchResult r (λ _. Right d) (λ e. TurnedDown e d)

-- Filling: a right description is held and meant afterwards; one that is turned down leaves the table as it was.
abbrev pub Filled : Result Unit FillRefusal → Description → Table → Table → Type 0
Filled r d before after = MatchResult r (λ _. Right d × Holds after d × Means (table_meaning after) d) (λ e. TurnedDown e d × (after ≡ before))

-- Making a table: it holds and means a right description; one that is turned down makes none.
abbrev pub Made : Result Table FillRefusal → Description → Type 0
Made r d = MatchResult r (λ t. Right d × Holds t d × Means (table_meaning t) d) (λ e. TurnedDown e d)

-- A new table: one state and one cue, closing nowhere.
abbrev pub blank : Description
blank = described 1 1 (0 ∷ []) 0
