-- Walking the states and closing is the template's holding.
-- Assumes nothing.
use Rattle.std.proofs.Common.{◌≡◌, ℕ, suc, ◌+◌, ◌<◌, ◌≤◌, [], ◌∷◌, sym, ◌∙◌, arith, nat_lt, min, fold, ◌==◌}
use Rattle.std.specs.Bool.{Decides}
use Rattle.std.proofs.lemmas.Bool.Decides.{Decides-at, nat_tests}
use Rattle.rules.specs.declared.letters.Letter.TheVariants.{A, B, Other}
use Rattle.rules.specs.declared.templates.Template.{Template}
use Rattle.rules.specs.declared.templates.Template.TheVariants.{Existence, Absence, Exactly}
use Rattle.rules.specs.declared.templates.Arguments.TheVariants.{CueAndCount}
use Rattle.rules.specs.Template.{Holds}
use Rattle.rules.specs.Naming.{arguments_of}
use Rattle.rules.specs.Word.{Word, times_a}
use Rattle.rules.specs.Rule.{Terms, word_of, ClosesWhereItHolds}
use Rattle.rules.specs.States.{counted, next_state, may_close, led}
use Rattle.rules.proofs.Ahead.{ahead, asked}
use Rattle.rules.proofs.Table.{ByTable, by_table, closed_as_asked, moved_as_asked}
use Rattle.rules.proofs.Verdicts.{asks_that_it_holds}

-- Where a word leads from a state, a show may close exactly when the word has what the state asks.
module _ (t : Template) (n : ℕ) (table : ByTable t n) where
  walked : (s : ℕ) (w : Word) → may_close t n (led t n s w) ≡ asked t (ahead t w) s
  walked s [] = closed_as_asked t n table s
  walked s (l ∷ w) = walked (next_state t n s l) w ∙ sym (moved_as_asked t n table s l (ahead t w))

-- So from state 0 it may close exactly when the template holds.
holds_by_table : (t : Template) (n : ℕ) (w : Word) → (arguments_of t ≡ CueAndCount → ⊥) → Decides (may_close t n (led t n 0 w)) (Holds t n w)
holds_by_table t n w without = Decides-at _ _ (walked t n (by_table t n without) 0 w) (asks_that_it_holds n w t without)

-- A counting rule stands at the times of A, up to its top.
counted_up : (top s : ℕ) (w : Word) → s ≤ top → fold (counted top) s w ≡ min (s + times_a w) top
counted_up top s [] le = omega arith
counted_up top s (A ∷ w) le = counted_up top (counted top s A) w (grind (arith, nat_tests)) ∙ grind (arith, nat_tests)
counted_up top s (B ∷ w) le = counted_up top s w le
counted_up top s (Other ∷ w) le = counted_up top s w le

-- What the three of them read off that.
at_least : (n k : ℕ) → Decides (min (0 + k) n == n) (n ≤ k)
at_least n k = (λ h. grind (arith, nat_tests), λ h. grind (arith, nat_tests))

fewer : (n k : ℕ) → Decides (nat_lt (min (0 + k) n) n) (k < n)
fewer n k = (λ h. grind (arith, nat_tests), λ h. grind (arith, nat_tests))

just : (n k : ℕ) → Decides (min (0 + k) (suc n) == n) (k ≡ n)
just n k = (λ h. grind (arith, nat_tests), λ h. grind (arith, nat_tests))

-- Every template, over words; and every rule, over shows.
pub holds : (t : Template) (n : ℕ) (w : Word) → Decides (may_close t n (led t n 0 w)) (Holds t n w)
holds Existence n w = rw (counted_up n 0 w (omega arith)) (at_least n (times_a w))
holds Absence n w = rw (counted_up n 0 w (omega arith)) (fewer n (times_a w))
holds Exactly n w = rw (counted_up (suc n) 0 w (omega arith)) (just n (times_a w))
holds t n w = holds_by_table t n w (λ e. cc)

pub closes_where_it_holds : (r : Terms) → ClosesWhereItHolds r
closes_where_it_holds r s = holds r.template r.n (word_of r s)
