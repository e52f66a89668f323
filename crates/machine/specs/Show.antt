-- Shows and show order.
-- Assumes nothing.
use Rattle.std.specs.Prelude.{◌≡◌, ℕ, ◌<◌, ◌⊎◌, List, [], ◌∷◌, ◌++◌, length, slice_index}
use Rattle.std.specs.declared.cmp.Ordering.TheVariants.{Less, Equal, Greater}
use Rattle.std.specs.declared.cmp.Ordering.{Ordering}
use Rattle.std.specs.List.{AllByRecursion}

-- A show (a finite trace) is a finite list of cues (events), perhaps empty.
abbrev pub Show : Type 0
Show = List ℕ

-- Every number of the list lies below the limit.
abbrev pub AllBelow : ℕ → List ℕ → Type 0
AllBelow limit xs = AllByRecursion (λ x. x < limit) xs

-- Every cue of the show lies below the cue count.
abbrev pub Cued : ℕ → Show → Type 0
Cued count s = AllBelow count s

-- Before place i the two shows have the same cues, and at place i the first show has the smaller one.
pub record LowerAt (s t : Show) (i : ℕ) : Type 0 where
  pub inside : i < length s
  pub agree : (k : ℕ) → k < i → slice_index s k ≡ slice_index t k
  pub smaller : slice_index s i < slice_index t i

-- Show order: a shorter show is earlier; between two of one length the first place where they differ decides, by the smaller cue.
abbrev pub Earlier : Show → Show → Type 0
Earlier s t = (length s < length t) ⊎ ((length s ≡ length t) × ((i : ℕ) × LowerAt s t i))

-- How an answer places the first show beside the second.
abbrev pub Placed : Ordering → Show → Show → Type 0
Placed Less s t = Earlier s t
Placed Equal s t = s ≡ t
Placed Greater s t = Earlier t s

-- Exactly one of three facts holds.
abbrev pub ExactlyOne : Type 0 → Type 0 → Type 0 → Type 0
ExactlyOne P Q R = (P × (Q → ⊥) × (R → ⊥)) ⊎ (((P → ⊥) × Q × (R → ⊥)) ⊎ ((P → ⊥) × (Q → ⊥) × R))

-- The laws of show order.
pub record ShowOrder : Type 0 where
  -- no show is earlier than itself
  pub irreflexive : (s : Show) → Earlier s s → ⊥
  pub transitive : (s t u : Show) → Earlier s t → Earlier t u → Earlier s u
  -- of any two shows the first is earlier, the same or later, and only one of these
  pub total : (s t : Show) → ExactlyOne (Earlier s t) (s ≡ t) (Earlier t s)
  -- one more cue on both shows keeps their order, whichever the cues are
  pub appending : (s t : Show) (c d : ℕ) → Earlier s t → Earlier (s ++ c ∷ []) (t ++ d ∷ [])
  -- one more cue on the same show: the smaller cue comes first
  pub branching : (s : Show) (c d : ℕ) → c < d → Earlier (s ++ c ∷ []) (s ++ d ∷ [])
