-- What a draft or a book holds.
-- Assumes nothing.
use Rattle.std.specs.Prelude.{◌≡◌, ℕ, ◌≤◌, List, length, slice_get, Some, Option, MatchOption}
use Rattle.rules.specs.declared.rules.Rule.{Rule}
use Rattle.rules.specs.Rule.{Terms, terms}

-- A cue count, and rules in the order in which they were added.
pub record Content : Type 0 where
  pub cues : ℕ
  pub rules : List Terms

-- Rule i says this. Rules are numbered from 0.
abbrev pub RuleAt : Content → ℕ → Terms → Type 0
RuleAt c i r = slice_get c.rules i ≡ Some r

-- Looking a rule up: the rule of that number, or none where none has it.
abbrev pub Found : Option Rule → Content → ℕ → Type 0
Found found c i = MatchOption found (length c.rules ≤ i) (λ r. RuleAt c i (terms r))
