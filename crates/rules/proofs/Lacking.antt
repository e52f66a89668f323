-- What a rule lacks: a state beyond its own moves to itself and may not close, and a letter B repeats other.
-- Assumes nothing.
use Rattle.std.proofs.Common.{◌≡◌, ℕ, suc, ◌≤◌, false, refl, arith}
use Rattle.std.proofs.lemmas.Bool.Decides.{nat_tests}
use Rattle.rules.specs.declared.letters.Letter.{Letter}
use Rattle.rules.specs.declared.letters.Letter.TheVariants.{A, B, Other}
use Rattle.rules.specs.declared.templates.Template.{Template}
use Rattle.rules.specs.declared.templates.Template.TheVariants.{Existence, Absence, Exactly}
use Rattle.rules.specs.Naming.{arguments_of}
use Rattle.rules.specs.States.{counted, next_state, may_close, state_count, has_letter}
use Rattle.rules.proofs.Table.{by_table, table_stays, table_bars, table_repeats}

-- A rule that counts stays where it is from its top on.
counted_stays : (top s : ℕ) (l : Letter) → top ≤ s → counted top s l ≡ s
counted_stays top s A le = grind (arith, nat_tests)
counted_stays top s B le = refl
counted_stays top s Other le = refl

-- A state that a rule lacks moves to itself.
pub stays : (t : Template) (n s : ℕ) (l : Letter) → state_count t n ≤ s → next_state t n s l ≡ s
stays Existence n s l le = counted_stays n s l (omega arith)
stays Absence n s l le = counted_stays n s l (omega arith)
stays Exactly n s l le = counted_stays (suc n) s l (omega arith)
stays t n s l le = table_stays t n (by_table t n (λ e. cc)) s l le

-- No show may close there.
pub bars : (t : Template) (n s : ℕ) → state_count t n ≤ s → may_close t n s ≡ false
bars Existence n s le = grind (arith, nat_tests)
bars Absence n s le = grind (arith, nat_tests)
bars Exactly n s le = grind (arith, nat_tests)
bars t n s le = table_bars t n (by_table t n (λ e. cc)) s le

-- Where the template lacks B, a move by B is one by other.
pub repeats : (t : Template) (n s : ℕ) → has_letter (arguments_of t) B ≡ false → next_state t n s B ≡ next_state t n s Other
repeats Existence n s without = refl
repeats Absence n s without = refl
repeats Exactly n s without = refl
repeats t n s without = table_repeats t n (by_table t n (λ e. cc)) s without
