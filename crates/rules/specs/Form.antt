-- Which arguments are in form for a template.
-- Assumes nothing.
use Rattle.std.specs.Prelude.{◌≡◌, ℕ, ◌≤◌}
use Rattle.rules.specs.declared.templates.Arguments.{Arguments}
use Rattle.rules.specs.declared.templates.Arguments.TheVariants.{CueAndCount, OneCue, TwoCues}

-- The most that a count may be. One more, and exactly n would have more than 16 states.
abbrev pub most_times : ℕ
most_times = 14

-- A count is 1 to 14; two cues are different.
abbrev pub CountRight : Arguments → ℕ → Type 0
CountRight args n = args ≡ CueAndCount → (1 ≤ n) × (n ≤ most_times)

abbrev pub CuesRight : Arguments → ℕ → ℕ → Type 0
CuesRight args a b = args ≡ TwoCues → a ≡ b → ⊥

-- Arguments are right when both are.
pub record Right (args : Arguments) (a b n : ℕ) : Type 0 where
  pub count : CountRight args n
  pub cues : CuesRight args a b

-- An argument that the template lacks is kept as 0.
abbrev pub kept_b : Arguments → ℕ → ℕ
kept_b TwoCues b = b
kept_b CueAndCount b = 0
kept_b OneCue b = 0

abbrev pub kept_n : Arguments → ℕ → ℕ
kept_n CueAndCount n = n
kept_n OneCue n = 0
kept_n TwoCues n = 0

-- What is so of every rule's arguments: they are right, and 0 where they are lacking.
pub record InForm (args : Arguments) (a b n : ℕ) : Type 0 where
  pub right : Right args a b n
  pub no_b : b ≡ kept_b args b
  pub no_n : n ≡ kept_n args n
