-- What a running show means to one rule: the rule's value, the permitted cues, and whether a cue is relevant.
-- Assumes nothing.
use Rattle.std.specs.Prelude.{ℕ, ◌<◌, ◌↔◌, ◌++◌, [], ◌∷◌, IsTrue}
use Rattle.machine.specs.Show.{Show, Cued}
use Rattle.machine.specs.Table.{bit}
use Rattle.rules.specs.Rule.{Terms, HoldsOf, closes_at, word_of}
use Rattle.rules.specs.States.{led}
use Rattle.book.specs.declared.values.Value.{Value}
use Rattle.book.specs.declared.values.Value.TheVariants.{HoldsAlways, Holds, Fails, FailsAlways}

-- The published numbers of the values.
abbrev pub value_number : Value → ℕ
value_number HoldsAlways = 0
value_number Holds = 1
value_number Fails = 2
value_number FailsAlways = 3

-- A continuation is a show of the book's cues, behind the running one. For each continuation H says whether the rule then holds.
-- It holds after every one, or after some one.
abbrev pub Always : ℕ → (Show → Type 0) → Type 0
Always count H = (v : Show) → Cued count v → H v

abbrev pub Sometimes : ℕ → (Show → Type 0) → Type 0
Sometimes count H = (v : Show) × Cued count v × H v

-- The values, by what holds now and after continuations.
abbrev pub ValueIs : Value → ℕ → (Show → Type 0) → Type 0
ValueIs HoldsAlways count H = H [] × Always count H
ValueIs Holds count H = H [] × Sometimes count (λ v. H v → ⊥)
ValueIs Fails count H = (H [] → ⊥) × Sometimes count H
ValueIs FailsAlways count H = (H [] → ⊥) × Always count (λ v. H v → ⊥)

-- The same one cue later.
abbrev pub behind : ℕ → (Show → Type 0) → Show → Type 0
behind q H v = H (q ∷ v)

-- A cue of the book is permitted unless the rule, after it, fails whatever follows.
abbrev pub Permitted : ℕ → (Show → Type 0) → ℕ → Type 0
Permitted count H q = (q < count) × (ValueIs FailsAlways count (behind q H) → ⊥)

-- A reading: the value, and the permitted cues as a number in which bit q stands for cue q.
pub record Reads (count : ℕ) (H : Show → Type 0) (w : Value) (mask : ℕ) : Type 0 where
  pub value : ValueIs w count H
  pub permitted : (q : ℕ) → IsTrue (bit mask q) ↔ Permitted count H q

-- Two running shows are read alike when they have the same value and the same permitted cues.
pub record ReadAlike (count : ℕ) (H G : Show → Type 0) : Type 0 where
  pub value : (w : Value) → ValueIs w count H ↔ ValueIs w count G
  pub permitted : (q : ℕ) → Permitted count H q ↔ Permitted count G q

-- A cue is relevant when it changes the reading: the value, or which cues are permitted.
abbrev pub Relevant : ℕ → (Show → Type 0) → ℕ → Type 0
Relevant count H q = ReadAlike count H (behind q H) → ⊥

-- Behind a show, the rule holds after a continuation when its template holds of the show with that behind it. At a state it does
-- when a show may close where the continuation leads from there.
abbrev pub after_show : Terms → Show → Show → Type 0
after_show r s v = HoldsOf r (s ++ v)

abbrev pub from_state : Terms → ℕ → Show → Type 0
from_state r s v = IsTrue (closes_at r (led r.template r.n s (word_of r v)))
