-- Wheels: tables whose states stand in a round, and which some of their 32 cues turn.
-- Assumes nothing.
use Rattle.std.specs.Prelude.{◌≡◌, ℕ, ◌+◌, ◌-◌, ◌/◌, ◌%◌, ◌<◌, ◌≤◌, ◌⊎◌, ◌&&◌, if◌then◌else◌, List, length, nat_lt, nat_le, slice_index, false}
use Rattle.machine.specs.Meaning.{Meaning}
use Rattle.search.specs.Search.{after}
use Rattle.bench.specs.declared.cells.TheConstants.{LIMIT}

-- By how many states a cue turns a wheel: the sixteen cues from the first on by one to sixteen, and the others not at all.
abbrev pub turns : ℕ → ℕ → ℕ
turns first c = if nat_le first c && nat_lt (c - first) 16 then c - first + 1 else 0

-- Where a cue leads from a state.
abbrev pub turned : ℕ → ℕ → ℕ → ℕ → ℕ
turned states first p c = (p + turns first c) % states

-- The bytes of a wheel, state by state and cue by cue.
abbrev pub Laid : ℕ → ℕ → List ℕ → Type 0
Laid states first bytes = (k : ℕ) → k < length bytes → slice_index bytes k ≡ turned states first (k / 32) (k % 32)

-- A machine that is such a wheel, begun at state 0: what is no state or no cue moves nowhere, and no show may close.
pub record Wheel (states first : ℕ) (m : Meaning) : Type 0 where
  pub cues : m.steps.cues ≡ 32
  pub start : m.steps.start ≡ 0
  pub next : (p c : ℕ) → p < states → c < 32 → m.steps.next p c ≡ turned states first p c
  pub stays : (p c : ℕ) → (states ≤ p) ⊎ (32 ≤ c) → m.steps.next p c ≡ p
  pub closes : (p : ℕ) → m.closes p ≡ false

-- A comparison of a wheel of 64 states with one of 32 that the other cues turn, with all the grants that it can need, works so
-- many joint positions.
abbrev pub WheelsWorked : ℕ → Type 0
WheelsWorked n = (l r : Meaning) × Wheel 64 0 l × Wheel 32 16 r × (n ≡ (after l r LIMIT LIMIT).worked)
