-- The table is right: one test over all of it, computed by the checker, and what the test tells of each template in it.
-- Assumes nothing.
use Rattle.std.proofs.Common.{◌≡◌, ℕ, ◌<◌, ◌≤◌, Bool, true, false, not, ◌&&◌, ◌||◌, ◌⊎◌, inl, inr, length, refl, sym, ◌∙◌, ap, arith, IsTrue, ◌==◌, nat_lt, slice_index}
use Rattle.std.specs.Bool.{beq}
use Rattle.std.specs.Cmp.{booleans_Decides}
use Rattle.std.proofs.lemmas.List.{get_or_past}
use Rattle.std.proofs.lemmas.Bool.Decides.{Decides-eqb, nat_tests}
use Rattle.std.proofs.lemmas.Bool.{and_parts}
use Rattle.rules.specs.declared.letters.Letter.{Letter}
use Rattle.rules.specs.declared.letters.Letter.TheVariants.{B, Other}
use Rattle.rules.specs.declared.moves.TheConstants.{STATES}
use Rattle.rules.specs.declared.templates.Template.{Template}
use Rattle.rules.specs.declared.templates.Template.TheVariants.{Existence, Absence, Exactly}
use Rattle.rules.specs.declared.templates.Arguments.{Arguments}
use Rattle.rules.specs.declared.templates.Arguments.TheVariants.{CueAndCount}
use Rattle.rules.specs.Naming.{arguments_of}
use Rattle.rules.specs.States.{row, tabled, table_closes, next_state, may_close, state_count, has_letter}
use Rattle.rules.proofs.Ahead.{Ahead, nothing, in_front, asks, asked}
use Rattle.rules.proofs.Every.{every_letter, letter_passes, every_below, below_passes, every_template, template_passes, every_rest, rest_passes}

-- The test of one slot of the table. A show may close there exactly where an empty rest has what the state asks.
abbrev closing_right : Template → ℕ → Bool
closing_right t s = beq (table_closes (row t) s) (asked t nothing s)

-- What the state asks of a rest with a letter in front, the next state asks of the rest.
abbrev move_right : Template → ℕ → Letter → ℕ → Ahead → Bool
move_right t s l next r = beq (asked t (in_front t l r) s) (asked t r next)

abbrev moves_right : Template → ℕ → Letter → Bool
moves_right t s l = every_rest (move_right t s l (tabled (row t) s l))

-- The state is one of the template's, or moves to itself and may not close.
abbrev kept_right : Template → ℕ → Bool
kept_right t s = nat_lt s (slice_index STATES (row t)) || (not (table_closes (row t) s) && every_letter (λ l. tabled (row t) s l == s))

-- Where the template lacks B, the move by B repeats that by other.
abbrev repeat_right : Template → ℕ → Bool
repeat_right t s = has_letter (arguments_of t) B || (tabled (row t) s B == tabled (row t) s Other)

abbrev slot_right : Template → ℕ → Bool
slot_right t s = (closing_right t s && every_letter (moves_right t s)) && (kept_right t s && repeat_right t s)

record SlotRight (t : Template) (s : ℕ) : Type 0 where
  closing : IsTrue (closing_right t s)
  moves : IsTrue (every_letter (moves_right t s))
  kept : IsTrue (kept_right t s)
  repeated : IsTrue (repeat_right t s)

at_slot : (t : Template) (s : ℕ) → IsTrue (slot_right t s) → SlotRight t s
at_slot t s h =
    let parts = and_parts (closing_right t s && every_letter (moves_right t s)) (kept_right t s && repeat_right t s) h in
    let walk = and_parts (closing_right t s) (every_letter (moves_right t s)) parts.0 in
    let rest = and_parts (kept_right t s) (repeat_right t s) parts.1 in
    record { closing = walk.0; moves = walk.1; kept = rest.0; repeated = rest.1 }

abbrev counts : Arguments → Bool
counts CueAndCount = true
counts args = false

abbrev template_right : Template → Bool
template_right t = counts (arguments_of t) || every_below 4 (slot_right t)

table_right : IsTrue (every_template template_right)
table_right = refl

-- A template without a count moves and closes by the table, whatever the count.
pub record ByTable (t : Template) (n : ℕ) : Type 0 where
  pub without : counts (arguments_of t) ≡ false
  pub moves : (s : ℕ) (l : Letter) → next_state t n s l ≡ tabled (row t) s l
  pub closes : (s : ℕ) → may_close t n s ≡ table_closes (row t) s
  pub states : state_count t n ≡ slice_index STATES (row t)
  -- at most the states in the four slots ask something that a rest may have
  pub few : (r : Ahead) → length (asks t r) ≤ 4

pub by_table : (t : Template) (n : ℕ) → (arguments_of t ≡ CueAndCount → ⊥) → ByTable t n
by_table Existence n h = absurd (h refl)
by_table Absence n h = absurd (h refl)
by_table Exactly n h = absurd (h refl)
by_table t n h = record { without = refl; moves = λ s l. refl; closes = λ s. refl; states = refl; few = λ r. omega arith }

-- A state lies within the four slots or past them.
within_or_past : (s : ℕ) → (s < 4) ⊎ (4 ≤ s)
within_or_past s = grind arith

-- A number that is not below another fails the test.
not_lower : (s k : ℕ) → k ≤ s → nat_lt s k ≡ false
not_lower s k le = grind (arith, nat_tests)

module _ (t : Template) (n : ℕ) (table : ByTable t n) where
  right : (s : ℕ) → s < 4 → SlotRight t s
  right s within = let passed : IsTrue (template_right t) = template_passes template_right table_right t in at_slot t s (below_passes 4 (slot_right t) (rw table.without at passed) s within)

  -- Past the four slots a state asks what no rest has, moves to itself and may not close.
  asked_past : (s : ℕ) (r : Ahead) → 4 ≤ s → asked t r s ≡ false
  asked_past s r past = let few = table.few r in get_or_past (asks t r) s false (omega arith)

  past_stays : (s : ℕ) (l : Letter) → 4 ≤ s → next_state t n s l ≡ s
  past_stays s l past = table.moves s l ∙ rw (not_lower s 4 past) refl

  past_bars : (s : ℕ) → 4 ≤ s → may_close t n s ≡ false
  past_bars s past = table.closes s ∙ rw (not_lower s 4 past) refl

  pub closed_as_asked : (s : ℕ) → may_close t n s ≡ asked t nothing s
  closed_as_asked s = elim (within_or_past s) [
    | inl within ↦ table.closes s ∙ (booleans_Decides _ _).0 (right s within).closing
    | inr past ↦ past_bars s past ∙ sym (asked_past s nothing past)
  ]

  pub moved_as_asked : (s : ℕ) (l : Letter) (r : Ahead) → asked t (in_front t l r) s ≡ asked t r (next_state t n s l)
  moved_as_asked s l r = elim (within_or_past s) [
    | inl within ↦ rw (table.moves s l) ((booleans_Decides _ _).0 (rest_passes (move_right t s l (tabled (row t) s l)) (letter_passes (moves_right t s) (right s within).moves l) r))
    | inr past ↦ asked_past s _ past ∙ sym (asked_past s r past) ∙ ap (asked t r) (sym (past_stays s l past))
  ]

  -- A state that the template lacks.
  lacked : (s : ℕ) → s < 4 → state_count t n ≤ s → IsTrue (not (table_closes (row t) s)) × IsTrue (every_letter (λ l. tabled (row t) s l == s))
  lacked s within le = let not_own : nat_lt s (slice_index STATES (row t)) ≡ false = not_lower s (slice_index STATES (row t)) (rw table.states at le) in and_parts _ _ (rw not_own at (right s within).kept)

  pub table_stays : (s : ℕ) (l : Letter) → state_count t n ≤ s → next_state t n s l ≡ s
  table_stays s l le = elim (within_or_past s) [
    | inl within ↦ table.moves s l ∙ (Decides-eqb (tabled (row t) s l) s).0 (letter_passes (λ l. tabled (row t) s l == s) (lacked s within le).1 l)
    | inr past ↦ past_stays s l past
  ]

  pub table_bars : (s : ℕ) → state_count t n ≤ s → may_close t n s ≡ false
  table_bars s le = elim (within_or_past s) [ inl within ↦ table.closes s ∙ grind (arith, (lacked s within le).0) | inr past ↦ past_bars s past ]

  pub table_repeats : (s : ℕ) → has_letter (arguments_of t) B ≡ false → next_state t n s B ≡ next_state t n s Other
  table_repeats s without = elim (within_or_past s) [
    | inl within ↦ table.moves s B ∙ (Decides-eqb (tabled (row t) s B) (tabled (row t) s Other)).0 (rw without at (right s within).repeated) ∙ sym (table.moves s Other)
    | inr past ↦ past_stays s B past ∙ sym (past_stays s Other past)
  ]
