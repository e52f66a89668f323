-- What a machine means, and what its meaning says of shows.
-- Assumes nothing.
use Rattle.std.specs.Prelude.{◌≡◌, ℕ, ◌^◌, ◌<◌, ◌≤◌, Bool, ◌⊎◌, fold, IsTrue}
use Rattle.machine.specs.Show.{Show}

-- The stepping half: the cue count, the start position, and the next position for every position and cue.
pub record Stepping : Type 0 where
  pub cues : ℕ
  pub start : ℕ
  pub next : ℕ → ℕ → ℕ

-- A machine (a deterministic automaton): how it steps, and at which positions a show may close.
pub record Meaning : Type 0 where
  pub steps : Stepping
  pub closes : ℕ → Bool

-- The position to which a show leads from a given one, cue by cue.
abbrev pub led_from : Stepping → ℕ → Show → ℕ
led_from m p s = fold m.next p s

-- The position to which a show leads.
abbrev pub leads_to : Stepping → Show → ℕ
leads_to m s = led_from m m.start s

-- A show is allowed when it may close at the position to which it leads.
abbrev pub allowed : Meaning → Show → Bool
allowed m s = m.closes (leads_to m.steps s)

abbrev pub Allows : Meaning → Show → Type 0
Allows m s = IsTrue (allowed m s)

-- A show divides (distinguishes) two machines when the one allows it and the other does not.
abbrev pub Divides : Meaning → Meaning → Show → Type 0
Divides m n s = (Allows m s × (Allows n s → ⊥)) ⊎ ((Allows m s → ⊥) × Allows n s)

-- The laws that every machine owes: all of them are about how it steps.
pub record Lawful (m : Stepping) : Type 0 where
  -- it has 1 to 32 cues
  pub some : 1 ≤ m.cues
  pub few : m.cues ≤ 32
  -- what is no cue of the machine leads nowhere else
  pub stays : (p c : ℕ) → m.cues ≤ c → m.next p c ≡ p
  -- positions are numbers below 2^64
  pub begins : m.start < 2 ^ 64
  pub within : (p c : ℕ) → p < 2 ^ 64 → m.next p c < 2 ^ 64
