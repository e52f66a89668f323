-- A template takes just the arguments on which it hangs when it holds.
-- Assumes nothing.
use Rattle.std.proofs.Common.{◌≡◌, ℕ, Bool, true, false, ◌↔◌, [], ◌∷◌, refl, sym, ◌∙◌, ap}
use Rattle.std.specs.Bool.{Decides}
use Rattle.std.proofs.lemmas.Bool.Decides.{Decides-at, Decides-like, same_from_decides}
use Rattle.rules.specs.declared.letters.Letter.TheVariants.{A, B, Other}
use Rattle.rules.specs.declared.templates.Template.{Template}
use Rattle.rules.specs.declared.templates.Template.TheVariants.{Existence, Absence, Exactly, Init, Last, Precedence, AlternatePrecedence, ChainPrecedence, Choice}
use Rattle.rules.specs.declared.templates.Arguments.{Arguments}
use Rattle.rules.specs.declared.templates.Arguments.TheVariants.{CueAndCount, OneCue, TwoCues}
use Rattle.rules.specs.Naming.{arguments_of}
use Rattle.rules.specs.Word.{Word}
use Rattle.rules.specs.Template.{Holds, without_b, TakesWhatItNeeds}
use Rattle.rules.specs.States.{has_letter, next_state, may_close, led}
use Rattle.rules.proofs.Walks.{holds}
use Rattle.rules.proofs.Lacking.{repeats}

no_count : (t : Template) → (arguments_of t ≡ CueAndCount → ⊥) → (m n : ℕ) (w : Word) → Holds t m w ↔ Holds t n w
no_count Existence h m n w = absurd (h refl)
no_count Absence h m n w = absurd (h refl)
no_count Exactly h m n w = absurd (h refl)
no_count t h m n w = (λ held. held, λ held. held)

-- What takes no two cues lacks the letter B.
lacks_b : (args : Arguments) → (args ≡ TwoCues → ⊥) → has_letter args B ≡ false
lacks_b CueAndCount h = refl
lacks_b OneCue h = refl
lacks_b TwoCues h = absurd (h refl)

-- So its states do not tell B from other.
led_alike : (t : Template) → (arguments_of t ≡ TwoCues → ⊥) → (n s : ℕ) (w : Word) → led t n s (without_b w) ≡ led t n s w
led_alike t h n s [] = refl
led_alike t h n s (A ∷ w) = led_alike t h n (next_state t n s A) w
led_alike t h n s (B ∷ w) = led_alike t h n (next_state t n s Other) w ∙ ap (λ q. led t n q w) (sym (repeats t n s (lacks_b (arguments_of t) h)))
led_alike t h n s (Other ∷ w) = led_alike t h n (next_state t n s Other) w

no_b : (t : Template) → (arguments_of t ≡ TwoCues → ⊥) → (n : ℕ) (w : Word) → Holds t n (without_b w) ↔ Holds t n w
no_b t h n w =
    let without = holds t n (without_b w) in
    let with_b = Decides-at _ _ (ap (may_close t n) (led_alike t h n 0 w)) (holds t n w) in
    (λ held. with_b.0 (without.1 held), λ held. without.0 (with_b.1 held))

-- What is decided otherwise is not the same.
not_same : {P Q : Type 0} (x y : Bool) → (x ≡ y → ⊥) → Decides x P → Decides y Q → P ↔ Q → ⊥
not_same x y other p q same = other (same_from_decides x y p (Decides-like y same.1 same.0 q))

-- One A: at least once but not twice, and so on.
count : (t : Template) → arguments_of t ≡ CueAndCount → (w : Word) × (Holds t 1 w ↔ Holds t 2 w → ⊥)
count Existence e = (A ∷ [], not_same true false (λ h. cc) (holds Existence 1 (A ∷ [])) (holds Existence 2 (A ∷ [])))
count Absence e = (A ∷ [], not_same false true (λ h. cc) (holds Absence 1 (A ∷ [])) (holds Absence 2 (A ∷ [])))
count Exactly e = (A ∷ [], not_same true false (λ h. cc) (holds Exactly 1 (A ∷ [])) (holds Exactly 2 (A ∷ [])))
count t e = cc

-- A B behind an A, or alone.
told_by : (t : Template) (n : ℕ) (w : Word) → (may_close t n (led t n 0 (without_b w)) ≡ may_close t n (led t n 0 w) → ⊥) → (w : Word) × (Holds t n (without_b w) ↔ Holds t n w → ⊥)
told_by t n w other = (w, not_same _ _ other (holds t n (without_b w)) (holds t n w))

b : (t : Template) → arguments_of t ≡ TwoCues → (n : ℕ) → (w : Word) × (Holds t n (without_b w) ↔ Holds t n w → ⊥)
b Existence e n = cc
b Absence e n = cc
b Exactly e n = cc
b Init e n = cc
b Last e n = cc
b Precedence e n = told_by Precedence n (B ∷ []) (λ h. cc)
b AlternatePrecedence e n = told_by AlternatePrecedence n (B ∷ []) (λ h. cc)
b ChainPrecedence e n = told_by ChainPrecedence n (B ∷ []) (λ h. cc)
b Choice e n = told_by Choice n (B ∷ []) (λ h. cc)
b t e n = told_by t n (A ∷ B ∷ []) (λ h. cc)

pub takes_what_it_needs : (t : Template) → TakesWhatItNeeds t
unfolding TakesWhatItNeeds
takes_what_it_needs t = record { no_count = no_count t; no_b = no_b t; count = count t; b = b t }
