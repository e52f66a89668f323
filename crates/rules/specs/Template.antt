-- Templates: when a rule of each holds.
-- Assumes nothing.
use Rattle.std.specs.Prelude.{◌≡◌, ℕ, suc, ◌<◌, ◌≤◌, ◌⊎◌, ◌↔◌, [], ◌∷◌, length}
use Rattle.rules.specs.declared.letters.Letter.TheVariants.{A, B, Other}
use Rattle.rules.specs.declared.templates.Template.{Template}
use Rattle.rules.specs.declared.templates.Template.TheVariants.{Existence, Absence, Exactly, Init, Last, RespondedExistence, CoExistence, Response, Precedence, Succession, AlternateResponse, AlternatePrecedence, AlternateSuccession, ChainResponse, ChainPrecedence, ChainSuccession, NotCoExistence, NotSuccession, NotChainSuccession, Choice, ExclusiveChoice}
use Rattle.rules.specs.declared.templates.Arguments.TheVariants.{CueAndCount, TwoCues}
use Rattle.rules.specs.Word.{Word, StandsAt, Stands, StandsLater, StandsEarlier, NotBetween, times_a}
use Rattle.rules.specs.Naming.{arguments_of}

-- Each A is answered: a B follows, at once or later.
abbrev pub Responds : Word → Type 0
Responds w = (i : ℕ) → StandsAt A w i → StandsLater B w i

-- Each B is prepared: an A came before, at once or earlier.
abbrev pub Precedes : Word → Type 0
Precedes w = (i : ℕ) → StandsAt B w i → StandsEarlier A w i

-- Each A is answered before there is another A.
abbrev pub RespondsAlternately : Word → Type 0
RespondsAlternately w = (i : ℕ) → StandsAt A w i → (j : ℕ) × (i < j) × StandsAt B w j × NotBetween A w i j

-- Each B is prepared by an A that came after the B before.
abbrev pub PrecedesAlternately : Word → Type 0
PrecedesAlternately w = (i : ℕ) → StandsAt B w i → (j : ℕ) × (j < i) × StandsAt A w j × NotBetween B w j i

-- The very next letter after each A is B.
abbrev pub RespondsDirectly : Word → Type 0
RespondsDirectly w = (i : ℕ) → StandsAt A w i → StandsAt B w (suc i)

-- The letter just before each B is A.
abbrev pub PrecedesDirectly : Word → Type 0
PrecedesDirectly w = (i : ℕ) → StandsAt B w i → (j : ℕ) × (suc j ≡ i) × StandsAt A w j

-- When a template holds of a word. Only the first three look at the count n.
abbrev pub Holds : Template → ℕ → Word → Type 0
-- A stands in it n times or more
Holds Existence n w = n ≤ times_a w
-- A stands in it n - 1 times at most
Holds Absence n w = times_a w < n
-- A stands in it n times, no more and no less
Holds Exactly n w = times_a w ≡ n
-- its first letter, if it has one, is A
Holds Init n w = (w ≡ []) ⊎ StandsAt A w 0
-- its last letter, if it has one, is A
Holds Last n w = (w ≡ []) ⊎ ((i : ℕ) × (suc i ≡ length w) × StandsAt A w i)
-- A does not stand in it, or B stands too
Holds RespondedExistence n w = (Stands A w → ⊥) ⊎ Stands B w
-- A and B stand in it, or neither
Holds CoExistence n w = (Stands A w × Stands B w) ⊎ ((Stands A w → ⊥) × (Stands B w → ⊥))
Holds Response n w = Responds w
Holds Precedence n w = Precedes w
Holds Succession n w = Responds w × Precedes w
Holds AlternateResponse n w = RespondsAlternately w
Holds AlternatePrecedence n w = PrecedesAlternately w
Holds AlternateSuccession n w = RespondsAlternately w × PrecedesAlternately w
Holds ChainResponse n w = RespondsDirectly w
Holds ChainPrecedence n w = PrecedesDirectly w
Holds ChainSuccession n w = RespondsDirectly w × PrecedesDirectly w
-- A and B do not stand in it together
Holds NotCoExistence n w = Stands A w × Stands B w → ⊥
-- behind no A stands a B
Holds NotSuccession n w = (i : ℕ) → StandsAt A w i → StandsLater B w i → ⊥
-- no A is followed at once by a B
Holds NotChainSuccession n w = (i : ℕ) → StandsAt A w i → StandsAt B w (suc i) → ⊥
-- at least one of the two stands in it
Holds Choice n w = Stands A w ⊎ Stands B w
-- one of the two stands in it, and the other does not
Holds ExclusiveChoice n w = (Stands A w × (Stands B w → ⊥)) ⊎ ((Stands A w → ⊥) × Stands B w)

-- The word with other in place of each B.
abbrev pub without_b : Word → Word
without_b [] = []
without_b (A ∷ w) = A ∷ without_b w
without_b (B ∷ w) = Other ∷ without_b w
without_b (Other ∷ w) = Other ∷ without_b w

-- What a template lacks makes no difference to when it holds, and what it takes makes one.
pub record MakesADifference (t : Template) : Type 0 where
  pub no_count : (arguments_of t ≡ CueAndCount → ⊥) → (m n : ℕ) (w : Word) → Holds t m w ↔ Holds t n w
  pub no_b : (arguments_of t ≡ TwoCues → ⊥) → (n : ℕ) (w : Word) → Holds t n (without_b w) ↔ Holds t n w
  pub count : arguments_of t ≡ CueAndCount → (w : Word) × (Holds t 1 w ↔ Holds t 2 w → ⊥)
  pub b : arguments_of t ≡ TwoCues → (n : ℕ) → (w : Word) × (Holds t n (without_b w) ↔ Holds t n w → ⊥)

-- A template takes just those arguments on which it hangs when it holds.
unfoldable pub TakesWhatItNeeds : Template → Type 0
TakesWhatItNeeds t = MakesADifference t
