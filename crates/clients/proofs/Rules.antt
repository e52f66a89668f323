-- What clients take from a rule's promises.
-- Assumes nothing.
use Rattle.std.proofs.Common.{◌≡◌, ℕ, ◌<◌, ◌↔◌, Bool, true, false, IsTrue, inl, inr, refl, sym, subst, arith}
use Rattle.std.proofs.lemmas.List.{length-map}
use Rattle.machine.specs.Show.{Show}
use Rattle.rules.specs.declared.templates.Template.{Template}
use Rattle.rules.specs.declared.templates.Template.TheVariants.{Existence}
use Rattle.rules.specs.declared.templates.Arguments.TheVariants.{CueAndCount, TwoCues}
use Rattle.rules.specs.Naming.{arguments_of}
use Rattle.rules.specs.Template.{TakesWhatItNeeds}
use Rattle.rules.specs.States.{OverItsLetters, StatesAre, letter_number}
use Rattle.rules.specs.Word.{Word}
use Rattle.rules.specs.Rule.{Terms, kept, HoldsOf, SeenByPlace, states_of}
use Rattle.clients.specs.Rules.{HangsOnCount, HangsOnB, CalledAtLeast, word_state, Reached, ReachedNoLater}

-- A rule of existence counts the cue in the show.
pub by_count : (r : Terms) (a n : ℕ) (s : Show) → r ≡ kept Existence a 0 n → SeenByPlace r → HoldsOf r s ↔ CalledAtLeast n a s
by_count r a n s is = subst (λ r. SeenByPlace r → HoldsOf r s ↔ CalledAtLeast n a s) (sym is) (λ seen. rw (seen.times s) (λ h. h, λ h. h))

denied : IsTrue false → ⊥
denied h = cc

-- A template takes what it hangs on, and nothing else.
pub count_matters : (t : Template) (yes : Bool) → IsTrue yes ↔ (arguments_of t ≡ CueAndCount) → TakesWhatItNeeds t → IsTrue yes ↔ HangsOnCount t
unfolding TakesWhatItNeeds
count_matters t true is needs = (λ h. let (w, apart) = needs.count (is.0 h) in (1, 2, w, apart), λ h. refl)
count_matters t false is needs = (λ h. cc, λ (m, n, w, apart). absurd (apart (needs.no_count (λ e. denied (is.1 e)) m n w)))

pub b_matters : (t : Template) (yes : Bool) → IsTrue yes ↔ (arguments_of t ≡ TwoCues) → TakesWhatItNeeds t → IsTrue yes ↔ HangsOnB t
unfolding TakesWhatItNeeds
b_matters t true is needs = (λ h. let (w, apart) = needs.b (is.0 h) 0 in (0, w, apart), λ h. refl)
b_matters t false is needs = (λ h. cc, λ (n, w, apart). absurd (apart (needs.no_b (λ e. denied (is.1 e)) n w)))

-- Just the states of a rule are reached, and an earlier one no later.
pub reached_if_own : (r : Terms) (s : ℕ) → StatesAre r.template r.n → (s < states_of r) ↔ Reached r s
reached_if_own r s are = (λ own. let (v, there) = are.reached s own in (v, there.0, there.1), λ (v, over, there). rw (sym there) (are.within v))

pub no_later : (r : Terms) (w : Word) (s : ℕ) → StatesAre r.template r.n → OverItsLetters r.template w → s < word_state r w → ReachedNoLater r w s
no_later r w s are over past =
    let (v, there, earlier) = are.numbered.by_first_reach w s over past in
    (v, there.0, there.1, elim earlier [ inl shorter ↦ omega (arith, length-map v letter_number, length-map w letter_number) | inr same ↦ omega (arith, same.0, length-map v letter_number, length-map w letter_number) ])
