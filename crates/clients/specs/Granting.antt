-- What clients of a bench say of what is granted, and of the questions that a verdict answers.
-- Assumes nothing.
use Rattle.std.specs.Prelude.{◌≢◌, ℕ, ◌≤◌, ◌⊎◌, Option, Some, None}
use Rattle.machine.specs.Show.{Show}
use Rattle.machine.specs.Meaning.{Meaning, Lawful}
use Rattle.search.specs.declared.states.Side.{Side}
use Rattle.search.specs.declared.states.Side.TheVariants as side
use Rattle.search.specs.declared.states.Verdict.TheVariants.{Open}
use Rattle.search.specs.Search.{after}
use Rattle.search.specs.Calls.{Strategy, run}
use Rattle.bench.specs.declared.cells.TheConstants.{LIMIT}
use Rattle.clients.specs.Comparing.{SameCues, AreSame, AreTooLarge, AllowsFirst}

-- So much decides any two machines, granted at once.
abbrev pub AtOnce : ℕ → Type 0
AtOnce grant = (l r : Meaning) → Lawful l.steps → Lawful r.steps → SameCues l.steps r.steps → (after l r LIMIT grant).verdict ≢ Open

-- So much or more decides any two machines, in whatever calls it is granted.
abbrev pub InAnyCalls : ℕ → Type 0
InAnyCalls grant = (l r : Meaning) → Lawful l.steps → Lawful r.steps → SameCues l.steps r.steps → (pick : Strategy) (k : ℕ)
    → grant ≤ (run l r LIMIT pick k).grants → (run l r LIMIT pick k).state.verdict ≢ Open

-- What it says which side is named.
abbrev pub NamesSide : Meaning → Meaning → Option Side → Type 0
NamesSide l r None = AreSame l r ⊎ AreTooLarge l r
NamesSide l r (Some side.Left) = (s : Show) × AllowsFirst l r s
NamesSide l r (Some side.Right) = (s : Show) × AllowsFirst r l s
