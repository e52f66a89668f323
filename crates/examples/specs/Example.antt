-- The example tables: three cues, LOAD, HOLD and FLY.
-- Assumes nothing.
use Rattle.std.specs.Prelude.{◌≡◌, ◌↔◌, ℕ, zero, suc, ◌<◌, List, [], ◌∷◌, length, codes, slice_index}
use Rattle.machine.specs.Show.{Show, Cued}
use Rattle.machine.specs.Meaning.{Meaning, Allows}
use Rattle.machine.specs.Table.{Description, described}

-- A flight only after its star field was loaded. State 0: nothing is loaded. State 1: loaded. State 2: a flight came too
-- early. A show may close at 0 and 1.
abbrev pub load_first : Description
load_first = described 3 3 (1 ∷ 0 ∷ 2 ∷ 1 ∷ 1 ∷ 1 ∷ 2 ∷ 2 ∷ 2 ∷ []) 3

-- After every LOAD a HOLD stands later. State 0: no HOLD is due. State 1: one is due. A show may close at 0.
abbrev pub hold_later : Description
hold_later = described 2 3 (1 ∷ 0 ∷ 0 ∷ 1 ∷ 0 ∷ 1 ∷ []) 1

-- Directly after every LOAD stands HOLD. State 0: no HOLD is due. State 1: one is due now. State 2: one was missed. A show
-- may close at 0.
abbrev pub hold_directly : Description
hold_directly = described 3 3 (1 ∷ 0 ∷ 0 ∷ 2 ∷ 0 ∷ 2 ∷ 2 ∷ 2 ∷ 2 ∷ []) 1

-- Before every FLY (cue 2) a LOAD (cue 0) stands earlier.
abbrev pub LoadFirst : Show → Type 0
LoadFirst s = (i : ℕ) → i < length s → slice_index s i ≡ 2 → (k : ℕ) × (k < i) × (slice_index s k ≡ 0)

-- After every LOAD (cue 0) a HOLD (cue 1) stands later.
abbrev pub HoldLater : Show → Type 0
HoldLater s = (i : ℕ) → i < length s → slice_index s i ≡ 0 → (k : ℕ) × (i < k) × (k < length s) × (slice_index s k ≡ 1)

-- Directly after every LOAD (cue 0) stands HOLD (cue 1).
abbrev pub HoldDirectly : Show → Type 0
HoldDirectly s = (i : ℕ) → i < length s → slice_index s i ≡ 0 → (suc i < length s) × (slice_index s (suc i) ≡ 1)

-- Of the shows of the three cues the machine allows just those of which this is so.
abbrev pub AllowsJust : Meaning → (Show → Type 0) → Type 0
AllowsJust m P = (s : Show) → Cued 3 s → Allows m s ↔ P s

-- The names of the three cues. Any other number is written as a question mark.
abbrev pub cue_name : ℕ → List ℕ
cue_name zero = codes "LOAD"
cue_name (suc zero) = codes "HOLD"
cue_name (suc (suc zero)) = codes "FLY"
cue_name (suc (suc (suc n))) = codes "?"
