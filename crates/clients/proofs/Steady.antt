-- Granting the same over and over.
-- Assumes nothing.
use Rattle.std.proofs.Common.{◌≡◌, ℕ, ◌+◌, ◌*◌, List, [], ◌∷◌, ◌++◌, subst, arith}
use Rattle.machine.specs.Meaning.{Meaning}
use Rattle.search.specs.Calls.{Advance, Answer, Worked, Strategy}
use Rattle.bench.specs.declared.benches.Bench.{Bench}
use Rattle.bench.specs.Bench.{Called, Handled, untouched, then_called}
use Rattle.clients.proofs.Told.{Opened, Reached}

-- The strategy.
abbrev pub always : ℕ → Strategy
always n answers = Advance n

module _ {L R : Type 0} (lefts : L → Meaning) (rights : R → Meaning) (n : ℕ) (b : Bench L R) where
  pub record Steadily (k : ℕ) (here : Bench L R) : Type 0 where
    pub answers : List Answer
    pub grants : ℕ
    pub sum : grants ≡ k * n
    pub run : Handled lefts rights (always n) b answers grants here

  pub at_first : Steadily 0 b
  at_first = record { answers = []; grants = 0; sum = omega arith; run = untouched }

  pub once_more : (k w : ℕ) (here there : Bench L R) → Steadily k here → Called lefts rights (Advance n) (Worked w) here there → Steadily (k + 1) there
  once_more k w here there so call = record {
    answers = so.answers ++ Worked w ∷ [];
    grants = so.grants + n;
    sum = more k so.sum;
    run = then_called so.run call;
  }
    where
      more : (k : ℕ) → so.grants ≡ k * n → so.grants + n ≡ (k + 1) * n
      more k e = grind arith

  pub steady : (k : ℕ) (x : L) (y : R) (here : Bench L R) → Opened lefts rights x y b → Steadily k here → Reached lefts rights x y (k * n) here
  steady k x y here opened so = record {
    bench = b;
    opened = opened;
    pick = always n;
    answers = so.answers;
    run = subst (λ g. Handled lefts rights (always n) b so.answers g here) so.sum so.run;
  }

  -- One grant.
  pub one_grant : (w : ℕ) (x : L) (y : R) (here : Bench L R) → Opened lefts rights x y b → Called lefts rights (Advance n) (Worked w) b here → Reached lefts rights x y n here
  one_grant w x y here opened call = record {
    bench = b;
    opened = opened;
    pick = always n;
    answers = Worked w ∷ [];
    run = subst (λ g. Handled lefts rights (always n) b (Worked w ∷ []) g here) (omega arith) (then_called untouched call);
  }
