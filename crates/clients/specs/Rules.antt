-- What clients say of rules, over shows and words.
-- Assumes nothing.
use Rattle.std.specs.Prelude.{◌≡◌, ℕ, Bool, IsTrue, suc, ◌<◌, ◌≤◌, ◌==◌, ◌↔◌, ◌⊎◌, [], ◌++◌, length, count_by, Some, slice_get}
use Rattle.machine.specs.Show.{Show}
use Rattle.rules.specs.declared.templates.Template.{Template}
use Rattle.rules.specs.Template.{Holds, without_b}
use Rattle.rules.specs.Word.{Word}
use Rattle.rules.specs.States.{OverItsLetters, Numbers, led}
use Rattle.rules.specs.Rule.{Terms}

-- A word tells two counts apart, and a word tells apart whether its Bs stand in it.
abbrev pub HangsOnCount : Template → Type 0
HangsOnCount t = (m : ℕ) × (n : ℕ) × (w : Word) × (Holds t m w ↔ Holds t n w → ⊥)

abbrev pub HangsOnB : Template → Type 0
HangsOnB t = (n : ℕ) × (w : Word) × (Holds t n (without_b w) ↔ Holds t n w → ⊥)

-- What three rules say, of the cues of the show alone.
abbrev pub CalledAtLeast : ℕ → ℕ → Show → Type 0
CalledAtLeast n a s = n ≤ count_by (λ c. c == a) s

abbrev pub EndsWith : ℕ → Show → Type 0
EndsWith a s = (s ≡ []) ⊎ ((i : ℕ) × (suc i ≡ length s) × (slice_get s i ≡ Some a))

abbrev pub EachAnswered : ℕ → ℕ → Show → Type 0
EachAnswered a b s = (i : ℕ) → slice_get s i ≡ Some a → (j : ℕ) × (i < j) × (slice_get s j ≡ Some b)

-- The state to which a word leads a rule.
abbrev pub word_state : Terms → Word → ℕ
word_state r w = led r.template r.n 0 w

-- No word behind two others makes the rule hold behind the one and not behind the other.
abbrev pub Inseparable : Terms → Word → Word → Type 0
Inseparable r u v = (w : Word) → OverItsLetters r.template w → Holds r.template r.n (u ++ w) ↔ Holds r.template r.n (v ++ w)

-- Words are numbered as the states of a rule are.
abbrev pub AsItsStates : Terms → (Word → ℕ) → Type 0
AsItsStates r number = Numbers r.template r.n number

-- A word over the rule's letters leads to this state.
abbrev pub Reached : Terms → ℕ → Type 0
Reached r s = (v : Word) × OverItsLetters r.template v × (word_state r v ≡ s)

-- A word over the rule's letters that is no longer than w leads to this state.
abbrev pub ReachedNoLater : Terms → Word → ℕ → Type 0
ReachedNoLater r w s = (v : Word) × OverItsLetters r.template v × (word_state r v ≡ s) × (length v ≤ length w)

-- If a word over the rule's letters leads past a state, as is told, a word that is no longer leads to the state.
abbrev pub IfPast : Terms → Word → ℕ → Bool → Type 0
IfPast r w s told = OverItsLetters r.template w → IsTrue told → ReachedNoLater r w s
