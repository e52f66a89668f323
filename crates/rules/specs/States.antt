-- The states of one rule: how it moves, and where a show may close.
-- Assumes nothing.
use Rattle.std.specs.Prelude.{◌≡◌, ℕ, suc, ◌+◌, ◌-◌, ◌*◌, ◌<◌, ◌≤◌, Bool, true, false, ◌&&◌, ◌==◌, ◌↔◌, ◌++◌, nat_lt, slice_index, slice_index_or, fold, map, if◌then◌else◌, IsTrue}
use Rattle.std.specs.List.{list_all}
use Rattle.machine.specs.Show.{Earlier}
use Rattle.rules.specs.declared.letters.Letter.{Letter}
use Rattle.rules.specs.declared.letters.Letter.TheVariants.{A, B, Other}
use Rattle.rules.specs.declared.moves.TheConstants.{MOVES, CLOSING, STATES}
use Rattle.rules.specs.declared.templates.Template.{Template}
use Rattle.rules.specs.declared.templates.Template.TheVariants.{Existence, Absence, Exactly}
use Rattle.rules.specs.declared.templates.Arguments.{Arguments}
use Rattle.rules.specs.declared.templates.Arguments.TheVariants.{TwoCues}
use Rattle.rules.specs.Template.{Holds}
use Rattle.rules.specs.Naming.{template_number, arguments_of}
use Rattle.rules.specs.Word.{Word}

-- The order of letters: A before B before other.
abbrev pub letter_number : Letter → ℕ
letter_number A = 0
letter_number B = 1
letter_number Other = 2

-- A counting rule counts the times of A up to a top, from which on it does not tell them apart.
abbrev pub counted : ℕ → ℕ → Letter → ℕ
counted top s A = if nat_lt s top then s + 1 else s
counted top s l = s

-- A rule without a count moves and closes by the table, in which its template has a row with a slot for each of 4 states, and
-- each slot has a move for each letter.
abbrev pub row : Template → ℕ
row t = template_number t - 4

abbrev pub slot : ℕ → ℕ → ℕ
slot r s = r * 4 + s

abbrev pub tabled : ℕ → ℕ → Letter → ℕ
tabled r s l = if nat_lt s 4 then slice_index MOVES (slot r s * 3 + letter_number l) else s

abbrev pub table_closes : ℕ → ℕ → Bool
table_closes r s = nat_lt s 4 && slice_index_or CLOSING (slot r s) false

-- The next state for a rule with count n at state s.
abbrev pub next_state : Template → ℕ → ℕ → Letter → ℕ
next_state Existence n s l = counted n s l
next_state Absence n s l = counted n s l
next_state Exactly n s l = counted (suc n) s l
next_state t n s l = tabled (row t) s l

-- Whether a show may close at state s.
abbrev pub may_close : Template → ℕ → ℕ → Bool
may_close Existence n s = s == n
may_close Absence n s = nat_lt s n
may_close Exactly n s = s == n
may_close t n s = table_closes (row t) s

-- How many states the rule has.
abbrev pub state_count : Template → ℕ → ℕ
state_count Existence n = n + 1
state_count Absence n = n + 1
state_count Exactly n = n + 2
state_count t n = slice_index STATES (row t)

-- The state to which a word leads from a given one.
abbrev pub led : Template → ℕ → ℕ → Word → ℕ
led t n s w = fold (next_state t n) s w

-- The letters of a rule: A, B and other, or A and other where its template lacks B.
abbrev pub has_letter : Arguments → Letter → Bool
has_letter TwoCues l = true
has_letter a B = false
has_letter a l = true

-- A word over the letters of a rule.
abbrev pub OverItsLetters : Template → Word → Type 0
OverItsLetters t w = IsTrue (list_all (has_letter (arguments_of t)) w)

-- Show order of words, A before B before other.
abbrev pub EarlierWord : Word → Word → Type 0
EarlierWord v w = Earlier (map letter_number v) (map letter_number w)

-- No continuation divides two words for a rule.
abbrev pub Undivided : Template → ℕ → Word → Word → Type 0
Undivided t n u v = (w : Word) → OverItsLetters t w → Holds t n (u ++ w) ↔ Holds t n (v ++ w)

-- A word over the rule's letters has a number.
abbrev pub HasNumber : Template → (Word → ℕ) → Word → ℕ → Type 0
HasNumber t number v s = OverItsLetters t v × (number v ≡ s)

-- A way to number words, for a rule with count n: two have one number exactly when no continuation divides them, and numbers are
-- given as words first reach them, so that a lower one is reached earlier.
pub record Numbers (t : Template) (n : ℕ) (number : Word → ℕ) : Type 0 where
  pub told_apart : (u v : Word) → (number u ≡ number v) ↔ Undivided t n u v
  pub by_first_reach : (w : Word) (s : ℕ) → OverItsLetters t w → s < number w → (v : Word) × HasNumber t number v s × EarlierWord v w

-- What the states of a rule with count n are.
pub record StatesAre (t : Template) (n : ℕ) : Type 0 where
  -- a word's number is the state to which it leads, and there is no other way to number words
  pub numbered : Numbers t n (led t n 0)
  pub only : (number : Word → ℕ) → Numbers t n number → (w : Word) → OverItsLetters t w → number w ≡ led t n 0 w
  -- every word leads to a state of the rule, and every state of the rule is reached
  pub within : (w : Word) → led t n 0 w < state_count t n
  pub reached : (s : ℕ) → s < state_count t n → (v : Word) × HasNumber t (led t n 0) v s
  pub few : state_count t n ≤ 16
  -- no letter leads out of a state beyond the rule's own, and no show closes there
  pub stays : (s : ℕ) (l : Letter) → state_count t n ≤ s → next_state t n s l ≡ s
  pub bars : (s : ℕ) → state_count t n ≤ s → may_close t n s ≡ false
  -- where the template lacks B, its moves by B repeat those by other
  pub repeats : (s : ℕ) → has_letter (arguments_of t) B ≡ false → next_state t n s B ≡ next_state t n s Other
