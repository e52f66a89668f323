-- Rules: making one, the letters that cues are to it, and when it holds of a show.
-- Assumes nothing.
use Rattle.std.specs.Prelude.{◌≡◌, ℕ, Bool, ◌&&◌, ◌==◌, ◌↔◌, List, length, map, count_by, Some, slice_get, Result, MatchResult, codes, if◌then◌else◌, IsTrue}
use Rattle.machine.specs.Show.{Show}
use Rattle.rules.specs.declared.letters.Letter.{Letter}
use Rattle.rules.specs.declared.letters.Letter.TheVariants.{A, B, Other}
use Rattle.rules.specs.declared.rules.Rule.{Rule}
use Rattle.rules.specs.declared.rules.RuleRefusal.{RuleRefusal}
use Rattle.rules.specs.declared.rules.RuleRefusal.TheVariants.{CountOutside, SameCue}
use Rattle.rules.specs.declared.templates.Arguments.{Arguments}
use Rattle.rules.specs.declared.templates.Arguments.TheVariants.{TwoCues}
use Rattle.rules.specs.declared.templates.Template.{Template}
use Rattle.rules.specs.Form.{CountRight, CuesRight, Right, kept_b, kept_n}
use Rattle.rules.specs.Word.{Word, StandsAt, times_a}
use Rattle.rules.specs.Template.{Holds}
use Rattle.rules.specs.Naming.{arguments_of}
use Rattle.rules.specs.States.{has_letter, next_state, may_close, state_count, led}

-- What a rule says: its template and its arguments.
pub record Terms : Type 0 where
  pub template : Template
  pub a : ℕ
  pub b : ℕ
  pub n : ℕ

abbrev pub terms : Rule → Terms
terms r = record { template = r.template; a = r.a; b = r.b; n = r.n }

-- The terms that are kept of those given.
abbrev pub kept : Template → ℕ → ℕ → ℕ → Terms
kept t a b n = record { template = t; a = a; b = kept_b (arguments_of t) b; n = kept_n (arguments_of t) n }

-- Why arguments are turned down: no template takes both a count and two cues, so one check at most fails.
abbrev pub TurnedDown : RuleRefusal → Arguments → ℕ → ℕ → ℕ → Type 0
TurnedDown CountOutside args a b n = CountRight args n → ⊥
TurnedDown SameCue args a b n = CuesRight args a b → ⊥

-- How arguments are answered: accepted when they are right, or else turned down.
abbrev pub LookedOver : Result Unit RuleRefusal → Arguments → ℕ → ℕ → ℕ → Type 0
LookedOver looked args a b n = MatchResult looked (λ _. Right args a b n) (λ e. TurnedDown e args a b n)

-- Making a rule: right arguments are kept, and others are turned down.
abbrev pub Made : Result Rule RuleRefusal → Template → ℕ → ℕ → ℕ → Type 0
Made made t a b n = MatchResult made (λ r. Right (arguments_of t) a b n × (terms r ≡ kept t a b n)) (λ e. TurnedDown e (arguments_of t) a b n)

-- The terms of a rule with another count.
abbrev pub retuned : Terms → ℕ → Terms
retuned r n = kept r.template r.a r.b n

-- Giving a rule another count: a right one is kept, and another leaves the rule as it was.
abbrev pub Retuned : Result Unit RuleRefusal → ℕ → Rule → Rule → Type 0
Retuned given n before after = MatchResult given (λ _. CountRight (arguments_of before.template) n × (terms after ≡ retuned (terms before) n)) (λ e. (e ≡ CountOutside) × (CountRight (arguments_of before.template) n → ⊥) × (after ≡ before))

-- The published numbers of the refusals.
abbrev pub refusal_number : RuleRefusal → ℕ
refusal_number CountOutside = 10
refusal_number SameCue = 11

-- What is printed of the refusals, whatever the options of the format.
abbrev pub refusal_words : RuleRefusal → List ℕ
refusal_words CountOutside = codes "the count is not 1 to 14"
refusal_words SameCue = codes "A and B are the same cue"

-- A cue falls under A, under B where the template takes one, or under other.
abbrev pub IsA : Terms → ℕ → Type 0
IsA r c = c ≡ r.a

abbrev pub IsB : Terms → ℕ → Type 0
IsB r c = (arguments_of r.template ≡ TwoCues) × (c ≡ r.b)

abbrev pub FallsUnder : Terms → ℕ → Letter → Type 0
FallsUnder r c A = IsA r c
FallsUnder r c B = IsB r c
FallsUnder r c Other = (IsA r c → ⊥) × (IsB r c → ⊥)

abbrev pub letter_of : Terms → ℕ → Letter
letter_of r c = if c == r.a then A else if has_letter (arguments_of r.template) B && c == r.b then B else Other

-- What a rule sees of a show.
abbrev pub word_of : Terms → Show → Word
word_of r s = map (letter_of r) s

-- The word is as long as the show. Place by place it has A exactly where the show has the rule's cue A, and B exactly where the
-- template takes a B and the show has that cue. A stands in it as often as that cue in the show.
pub record SeenByPlace (r : Terms) : Type 0 where
  pub long : (s : Show) → length (word_of r s) ≡ length s
  pub a : (s : Show) (i : ℕ) → StandsAt A (word_of r s) i ↔ (slice_get s i ≡ Some r.a)
  pub b : (s : Show) (i : ℕ) → StandsAt B (word_of r s) i ↔ ((arguments_of r.template ≡ TwoCues) × (slice_get s i ≡ Some r.b))
  pub times : (s : Show) → times_a (word_of r s) ≡ count_by (λ c. c == r.a) s

-- A rule holds of a show when its template holds of the show's word.
abbrev pub HoldsOf : Terms → Show → Type 0
HoldsOf r s = Holds r.template r.n (word_of r s)

-- The states of a rule: how many, where a letter leads from one, and whether a show may close there.
abbrev pub states_of : Terms → ℕ
states_of r = state_count r.template r.n

abbrev pub step_of : Terms → ℕ → Letter → ℕ
step_of r s l = next_state r.template r.n s l

abbrev pub closes_at : Terms → ℕ → Bool
closes_at r s = may_close r.template r.n s

-- The state to which a show leads a rule from 0.
abbrev pub state_after : Terms → Show → ℕ
state_after r s = led r.template r.n 0 (word_of r s)

-- The law over whole shows: a show may close at the state to which it leads the rule exactly when the rule holds of it.
abbrev pub ClosesWhereItHolds : Terms → Type 0
ClosesWhereItHolds r = (s : Show) → IsTrue (closes_at r (state_after r s)) ↔ HoldsOf r s
