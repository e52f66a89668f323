-- The rules that a draft or a book holds, in places of a fixed number.
-- Assumes nothing.
use Rattle.std.specs.Prelude.{◌≡◌, ℕ, ◌-◌, ◌≤◌, List, ◌++◌, length, map, take, replicate, set, slice_get, Some, Option, MatchOption, Result, MatchResult}
use Rattle.rules.specs.declared.templates.Template.TheVariants.{Init}
use Rattle.rules.specs.declared.rules.Rule.{Rule}
use Rattle.rules.specs.declared.rules.RuleRefusal.{RuleRefusal}
use Rattle.rules.specs.declared.rules.RuleRefusal.TheVariants.{CountOutside}
use Rattle.rules.specs.Form.{CountRight}
use Rattle.rules.specs.Naming.{arguments_of}
use Rattle.rules.specs.Rule.{Terms, terms, retuned}
use Rattle.book.specs.declared.held.Held.{Held}

-- How many rules a draft or a book holds at most.
abbrev pub most_rules : ℕ
most_rules = 16

-- What stands in a place where no rule is held.
abbrev pub blank : Terms
blank = record { template = Init; a = 0; b = 0; n = 0 }

-- What stands in all places, and the rules that are held: those in the first places.
abbrev pub places_of : Held → List Terms
places_of h = map terms h.rules

abbrev pub held_rules : Held → List Terms
held_rules h = take h.count (places_of h)

-- The places with these rules held, and blank ones beyond.
abbrev pub filled_up : List Terms → List Terms
filled_up rs = rs ++ replicate (most_rules - length rs) blank

-- There are places for the rules held, and all places are those rules and blank ones.
pub record Tidy (h : Held) : Type 0 where
  pub places : length h.rules ≡ most_rules
  pub room : h.count ≤ most_rules
  pub laid : places_of h ≡ filled_up (held_rules h)

-- Looking a place up: the rule held there, or none where none is held.
abbrev pub FoundAt : Option Rule → Held → ℕ → Type 0
FoundAt found h i = MatchOption found (length (held_rules h) ≤ i) (λ r. slice_get (held_rules h) i ≡ Some (terms r))

-- Giving one of the rules held another count: a right count changes this rule alone, and another changes nothing.
abbrev pub RetunedAt : ℕ → ℕ → Result Unit RuleRefusal → Held → Held → Type 0
RetunedAt i n given before after = (r : Terms) × (slice_get (held_rules before) i ≡ Some r) × MatchResult given
    (λ _. CountRight (arguments_of r.template) n × (held_rules after ≡ set (held_rules before) i (retuned r n)))
    (λ e. (e ≡ CountOutside) × (CountRight (arguments_of r.template) n → ⊥) × (after ≡ before))
