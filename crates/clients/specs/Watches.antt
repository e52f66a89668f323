-- Shows that a watch hears whole.
-- Assumes nothing.
use Rattle.std.specs.Prelude.{◌≡◌, ℕ, ◌<◌, ◌≤◌, List, length, Ok}
use Rattle.std.specs.List.{AllByRecursion}
use Rattle.machine.specs.Show.{Show, Cued}
use Rattle.machine.specs.Meaning.{Stepping, Meaning}
use Rattle.machine.specs.Watch.{Standing, answers}

-- A show of the machine's cues, no longer than a show may be.
abbrev pub FitsAShow : Stepping → Show → Type 0
FitsAShow m s = Cued m.cues s × (length s ≤ 10000)

-- A number is a cue of the machine, and the show has room for one more.
abbrev pub IsDue : {M : Type 0} → (M → Meaning) → Standing M → ℕ → Type 0
IsDue meaning w c = (c < (meaning w.machine).steps.cues) × (w.taken < 10000)

-- No call is turned down, one after the other.
abbrev pub AllTaken : {M : Type 0} → (M → Meaning) → Standing M → List ℕ → Type 0
AllTaken meaning w calls = AllByRecursion (λ a. a ≡ Ok tt) (answers meaning w calls)
