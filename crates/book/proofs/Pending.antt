-- While a response is pending, one more A is not relevant.
-- Assumes nothing.
use Rattle.std.proofs.Common.{◌≡◌, ℕ, zero, suc, ◌<◌, ◌↔◌, IsTrue, [], ◌∷◌, sym, refl, subst, arith}
use Rattle.std.proofs.lemmas.Bool.Decides.{Decides-eqb}
use Rattle.machine.specs.Show.{Show}
use Rattle.rules.specs.declared.letters.Letter.{Letter}
use Rattle.rules.specs.declared.letters.Letter.TheVariants.{A, B, Other}
use Rattle.rules.specs.declared.templates.Template.TheVariants.{Response}
use Rattle.rules.specs.Rule.{Terms, HoldsOf, closes_at, state_after, letter_of, word_of}
use Rattle.rules.specs.States.{led, next_state}
use Rattle.rules.specs.Word.{Word}
use Rattle.rules.proofs.Walks.{closes_where_it_holds}
use Rattle.book.specs.Value.{Relevant, behind, after_show, from_state}
use Rattle.book.specs.Reading.{SecondANotRelevant}
use Rattle.book.proofs.Readings.{back, after, read_alike}
use Rattle.book.proofs.Behind.{state_tells}

-- Words lead a response to state 0 or 1.
next_low : (n s : ℕ) (l : Letter) → s < 2 → next_state Response n s l < 2
next_low n zero A low = omega arith
next_low n zero B low = omega arith
next_low n zero Other low = omega arith
next_low n (suc zero) A low = omega arith
next_low n (suc zero) B low = omega arith
next_low n (suc zero) Other low = omega arith
next_low n (suc (suc s)) l low = absurd (omega arith)

led_low : (n s : ℕ) (w : Word) → s < 2 → led Response n s w < 2
led_low n s [] low = low
led_low n s (l ∷ w) low = led_low n (next_state Response n s l) w (next_low n s l low)

module _ (a b n : ℕ) where
  abbrev response : Terms
  response = record { template = Response; a = a; b = b; n = n }

  -- So it stands in state 1 while it does not hold.
  pending_in_one : (s : Show) → (HoldsOf response s → ⊥) → state_after response s ≡ 1
  pending_in_one s pending = by_state (state_after response s) (led_low n 0 (word_of response s) (omega arith)) (λ closes. pending ((closes_where_it_holds response s).0 closes))
    where
      by_state : (st : ℕ) → st < 2 → (IsTrue (closes_at response st) → ⊥) → st ≡ 1
      by_state zero low barred = absurd (barred refl)
      by_state (suc zero) low barred = refl
      by_state (suc (suc st)) low barred = absurd (omega arith)

  -- From there A leads to no other state, so the same continuations make the rule hold behind one more A.
  same_state : (s v : Show) → (HoldsOf response s → ⊥) → from_state response (state_after response s) v ↔ from_state response (state_after response s) (a ∷ v)
  same_state s v pending = rw (pending_in_one s pending, a_is) (λ h. h, λ h. h)
    where
      a_is : letter_of response a ≡ A
      a_is = rw ((Decides-eqb a a).1 refl) refl

  same_behind_a : (s : Show) → (HoldsOf response s → ⊥) → (v : Show) → after_show response s v ↔ behind a (after_show response s) v
  same_behind_a s pending v = after (back (state_tells response s v)) (after (same_state s v pending) (state_tells response s (a ∷ v)))

-- So what is read behind one more A is what was read before.
pub second_a_not_relevant : SecondANotRelevant
unfolding SecondANotRelevant
second_a_not_relevant count r s is = subst (λ t. let x : Terms = record { template = t; a = r.a; b = r.b; n = r.n } in (HoldsOf x s → ⊥) → Relevant count (after_show x s) x.a → ⊥) (sym is)
    (λ pending relevant. relevant (read_alike count _ _ (same_behind_a r.a r.b r.n s pending)))
