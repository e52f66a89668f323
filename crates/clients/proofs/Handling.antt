-- Handling a bench by a strategy that looks at the last answer.
-- Assumes nothing.
use Rattle.std.proofs.Common.{◌≡◌, ℕ, ◌+◌, List, [], ◌∷◌, ◌++◌, Some, None, Option, refl, ap, sym, subst}
use Rattle.std.specs.List.{fold}
use Rattle.std.proofs.lemmas.List.Sums.{fold-append}
use Rattle.machine.specs.Meaning.{Meaning}
use Rattle.search.specs.Calls.{Call, Answer, Strategy, granted}
use Rattle.bench.specs.declared.benches.Bench.{Bench}
use Rattle.bench.specs.Bench.{Called, Handled, untouched, then_called}

-- The last of the answers.
abbrev later : Option Answer → Answer → Option Answer
later o a = Some a

abbrev last : List Answer → Option Answer
last answers = fold later None answers

abbrev reply : Call → (Answer → Call) → Option Answer → Call
reply first next None = first
reply first next (Some a) = next a

-- The strategy that begins with one call, and picks every other by the answer before it.
abbrev pub replying : Call → (Answer → Call) → Strategy
replying first next answers = reply first next (last answers)

replies : (first : Call) (next : Answer → Call) (answers : List Answer) (a : Answer) → replying first next (answers ++ a ∷ []) ≡ next a
replies first next answers a = ap (reply first next) (fold-append later None answers (a ∷ []))

module _ {L R : Type 0} (lefts : L → Meaning) (rights : R → Meaning) (first : Call) (next : Answer → Call) (b : Bench L R) where
  -- So handled, the bench b has become the bench here by grants that add up to g, and this call comes next.
  pub record Comes (g : ℕ) (c : Call) (here : Bench L R) : Type 0 where
    pub answers : List Answer
    pub run : Handled lefts rights (replying first next) b answers g here
    pub then : replying first next answers ≡ c

  pub begins : Comes 0 first b
  begins = record { answers = []; run = untouched; then = refl }

  -- One more call.
  pub goes_on : (g : ℕ) (c : Call) (a : Answer) (here there : Bench L R) → Comes g c here → Called lefts rights c a here there → Comes (g + granted c) (next a) there
  goes_on g c a here there so call = record {
    answers = so.answers ++ a ∷ [];
    run = subst (λ k. Handled lefts rights (replying first next) b (so.answers ++ a ∷ []) (g + granted k) there) so.then
        (then_called so.run (subst (λ k. Called lefts rights k a here there) (sym so.then) call));
    then = replies first next so.answers a;
  }
