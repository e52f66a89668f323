-- The faults of a table's description, each in plain numbers.
-- Assumes nothing.
use Rattle.std.specs.Prelude.{◌≡◌, ℕ, ◌*◌, ◌^◌, ◌<◌, ◌≤◌, ◌⊎◌, List, length, Any}

-- A count is none, or more than the most.
abbrev pub IsOutside : ℕ → ℕ → Type 0
IsOutside n most = (n ≡ 0) ⊎ (most < n)

-- A count is at least one, and not more than the most.
abbrev pub IsWithin : ℕ → ℕ → Type 0
IsWithin n most = (1 ≤ n) × (n ≤ most)

-- A byte is no state, or a bit is set that stands for none.
abbrev pub NamesBeyond : ℕ → List ℕ → ℕ → Type 0
NamesBeyond states next closing = Any (λ b. states ≤ b) next ⊎ (2 ^ states ≤ closing)

-- A description has none of these faults.
abbrev pub IsATable : ℕ → ℕ → List ℕ → ℕ → Type 0
IsATable states cues next closing = IsWithin states 64 × IsWithin cues 32 × (length next ≡ states * cues) × (NamesBeyond states next closing → ⊥)
