-- Words: what a rule sees of a show.
-- Assumes nothing.
use Rattle.std.specs.Prelude.{◌≡◌, ℕ, suc, ◌<◌, List, [], ◌∷◌, Some, slice_get}
use Rattle.rules.specs.declared.letters.Letter.{Letter}
use Rattle.rules.specs.declared.letters.Letter.TheVariants.{A, B, Other}

-- A word over the letters: a show with a letter for each cue.
abbrev pub Word : Type 0
Word = List Letter

-- At place i of the word stands the letter.
abbrev pub StandsAt : Letter → Word → ℕ → Type 0
StandsAt l w i = slice_get w i ≡ Some l

-- The letter stands somewhere.
abbrev pub Stands : Letter → Word → Type 0
Stands l w = (i : ℕ) × StandsAt l w i

-- The letter stands later than place i.
abbrev pub StandsLater : Letter → Word → ℕ → Type 0
StandsLater l w i = (j : ℕ) × (i < j) × StandsAt l w j

-- The letter stands earlier than place i.
abbrev pub StandsEarlier : Letter → Word → ℕ → Type 0
StandsEarlier l w i = (j : ℕ) × (j < i) × StandsAt l w j

-- The letter does not stand between the places i and j.
abbrev pub NotBetween : Letter → Word → ℕ → ℕ → Type 0
NotBetween l w i j = (k : ℕ) → i < k → k < j → StandsAt l w k → ⊥

-- How many times A stands.
abbrev pub times_a : Word → ℕ
times_a [] = 0
times_a (A ∷ w) = suc (times_a w)
times_a (B ∷ w) = times_a w
times_a (Other ∷ w) = times_a w
