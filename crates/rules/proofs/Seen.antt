-- A show's word, place by place.
-- Assumes nothing.
use Rattle.std.proofs.Common.{◌≡◌, ℕ, Bool, true, false, ◌==◌, ◌↔◌, [], ◌∷◌, zero, suc, refl, sym, ◌∙◌, ◌+◌, cond, ap, arith, count_by, Some, slice_get, if◌then◌else◌}
use Rattle.std.specs.Bool.{Decides}
use Rattle.std.proofs.lemmas.List.{length-map}
use Rattle.std.proofs.lemmas.List.Sums.{sum_by-cons}
use Rattle.std.proofs.lemmas.Bool.Decides.{Decides-eqb, Decides-and, Decides-like}
use Rattle.machine.specs.Show.{Show}
use Rattle.rules.specs.declared.letters.Letter.TheVariants.{A, B, Other}
use Rattle.rules.specs.declared.rules.Rule.{Rule}
use Rattle.rules.specs.declared.templates.Arguments.{Arguments}
use Rattle.rules.specs.declared.templates.Arguments.TheVariants.{CueAndCount, OneCue, TwoCues}
use Rattle.rules.specs.Form.{CuesRight}
use Rattle.rules.specs.Naming.{arguments_of}
use Rattle.rules.specs.Word.{Word, StandsAt, times_a}
use Rattle.rules.specs.Rule.{Terms, terms, letter_of, word_of, SeenByPlace}
use Rattle.rules.specs.States.{has_letter}

-- A letter picked by two tests is A where the first is passed, and B where the second is, if not both can be; it counts as an A
-- where the first is.
is_a : (x y : Bool) (P : Type 0) → Decides x P → (Some (if x then A else if y then B else Other) ≡ Some A) ↔ P
is_a true y P d = (λ _. d.0 refl, λ _. refl)
is_a false true P d = (λ h. cc, λ h. absurd (cc (d.1 h)))
is_a false false P d = (λ h. cc, λ h. absurd (cc (d.1 h)))

is_b : (x y : Bool) (P Q : Type 0) → (P → Q → ⊥) → Decides x P → Decides y Q → (Some (if x then A else if y then B else Other) ≡ Some B) ↔ Q
is_b true y P Q apart d e = (λ h. cc, λ q. absurd (apart (d.0 refl) q))
is_b false true P Q apart d e = (λ _. e.0 refl, λ _. refl)
is_b false false P Q apart d e = (λ h. cc, λ q. absurd (cc (e.1 q)))

times_behind : (x y : Bool) (w : Word) → times_a ((if x then A else if y then B else Other) ∷ w) ≡ cond x 1 0 + times_a w
times_behind true y w = omega arith
times_behind false true w = omega arith
times_behind false false w = omega arith

-- A template has the letter B when it takes two cues.
takes_b : (args : Arguments) → Decides (has_letter args B) (args ≡ TwoCues)
takes_b TwoCues = (λ _. refl, λ _. refl)
takes_b CueAndCount = (λ h. cc, λ h. cc)
takes_b OneCue = (λ h. cc, λ h. cc)

-- A cue in front of a show is a certain cue.
in_front_is : (c d : ℕ) → Decides (c == d) (Some c ≡ Some d)
in_front_is c d = Decides-like _ (λ e. ap Some e) (λ e. cc) (Decides-eqb c d)

module _ (r : Terms) (apart : CuesRight (arguments_of r.template) r.a r.b) where
  -- Place by place; and how often.
  seen_a : (s : Show) (i : ℕ) → StandsAt A (word_of r s) i ↔ (slice_get s i ≡ Some r.a)
  seen_a [] i = (λ h. cc, λ h. cc)
  seen_a (c ∷ s) zero = is_a _ _ _ (in_front_is c r.a)
  seen_a (c ∷ s) (suc i) = seen_a s i

  seen_b : (s : Show) (i : ℕ) → StandsAt B (word_of r s) i ↔ ((arguments_of r.template ≡ TwoCues) × (slice_get s i ≡ Some r.b))
  seen_b [] i = (λ h. cc, λ h. absurd (cc h.1))
  seen_b (c ∷ s) zero = is_b _ _ _ _ (λ at_a at_b. apart at_b.0 (cc at_b.1)) (in_front_is c r.a) (Decides-and _ _ (takes_b (arguments_of r.template)) (in_front_is c r.b))
  seen_b (c ∷ s) (suc i) = seen_b s i

  seen_times : (s : Show) → times_a (word_of r s) ≡ count_by (λ c. c == r.a) s
  seen_times [] = refl
  seen_times (c ∷ s) = times_behind _ _ (word_of r s) ∙ ap (λ n. cond (c == r.a) 1 0 + n) (seen_times s) ∙ sym (sum_by-cons (λ d. cond (d == r.a) 1 0) c s)

pub seen_by_place : (r : Rule) → SeenByPlace (terms r)
seen_by_place r = record { long = λ s. length-map s (letter_of (terms r)); a = seen_a (terms r) r.in_form.right.cues; b = seen_b (terms r) r.in_form.right.cues; times = seen_times (terms r) r.in_form.right.cues }
