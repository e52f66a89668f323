-- Drafts: what the calls that change one leave, and why they are turned down.
-- Assumes nothing.
use Rattle.std.specs.Prelude.{◌≡◌, ℕ, ◌<◌, ◌≤◌, List, [], ◌∷◌, ◌++◌, length, remove, set, Result, MatchResult, codes, min, max}
use Rattle.rules.specs.declared.rules.Rule.{Rule}
use Rattle.rules.specs.declared.rules.RuleRefusal.{RuleRefusal}
use Rattle.rules.specs.declared.rules.RuleRefusal.TheVariants as rule
use Rattle.rules.specs.declared.templates.Template.{Template}
use Rattle.rules.specs.declared.templates.Arguments.TheVariants.{CueAndCount, TwoCues}
use Rattle.rules.specs.Form.{CountRight, CuesRight, Right}
use Rattle.rules.specs.Naming.{template_number, arguments_of}
use Rattle.rules.specs.Rule.{Terms, terms, kept, retuned, refusal_number, refusal_words}
use Rattle.book.specs.declared.drafts.Draft.{Draft}
use Rattle.book.specs.declared.drafts.DraftRefusal.{DraftRefusal}
use Rattle.book.specs.declared.drafts.DraftRefusal.TheVariants.{NoSuchTemplate, NoSuchCue, CountOutside, SameCue, Full, NoSuchRule}
use Rattle.book.specs.Content.{Content, RuleAt}
use Rattle.book.specs.Held.{most_rules, held_rules}

-- What a draft holds.
abbrev pub draft_content : Draft → Content
draft_content d = record { cues = d.cues; rules = held_rules d.held }

-- A draft is begun for a count of 1 to 32 cues; a count outside is taken as the nearer end.
abbrev pub begun : ℕ → Content
begun count = record { cues = min (max count 1) 32; rules = [] }

-- What is asked of a rule to be added, in the order in which it is looked at: a template has the number; each cue that the
-- template takes lies below the cue count; its count is 1 to 14, and its two cues differ; and there is room.
abbrev pub OfTemplate : ℕ → (Template → Type 0) → Type 0
OfTemplate number P = (t : Template) × (template_number t ≡ number) × P t

abbrev pub CuesBelow : ℕ → Template → ℕ → ℕ → Type 0
CuesBelow count t a b = (a < count) × (arguments_of t ≡ TwoCues → b < count)

abbrev pub Room : Content → Type 0
Room c = length c.rules < most_rules

-- A rule is added: it stands last.
abbrev pub with_rule : Content → Terms → Content
with_rule c r = record c { rules = c.rules ++ r ∷ [] }

-- Why a rule is not added: the first of the five that fails.
abbrev pub NotAdded : DraftRefusal → Content → ℕ → ℕ → ℕ → ℕ → Type 0
NotAdded NoSuchTemplate c number a b n = (t : Template) → template_number t ≡ number → ⊥
NotAdded NoSuchCue c number a b n = OfTemplate number (λ t. CuesBelow c.cues t a b → ⊥)
NotAdded CountOutside c number a b n = OfTemplate number (λ t. CuesBelow c.cues t a b × (CountRight (arguments_of t) n → ⊥))
NotAdded SameCue c number a b n = OfTemplate number (λ t. CuesBelow c.cues t a b × CountRight (arguments_of t) n × (CuesRight (arguments_of t) a b → ⊥))
NotAdded Full c number a b n = OfTemplate number (λ t. CuesBelow c.cues t a b × Right (arguments_of t) a b n × (Room c → ⊥))
NotAdded NoSuchRule c number a b n = ⊥

-- Looking over what is given of a rule, which comes before looking for room.
abbrev pub Checked : Result Rule DraftRefusal → ℕ → ℕ → ℕ → ℕ → ℕ → Type 0
Checked made count number a b n = MatchResult made
    (λ r. OfTemplate number (λ t. CuesBelow count t a b × Right (arguments_of t) a b n × (terms r ≡ kept t a b n)))
    (λ e. (rs : List Terms) → NotAdded e (record { cues = count; rules = rs }) number a b n)

-- Adding a rule: a right one, where there is room, stands last then; any other is turned down, and the draft is as it was.
abbrev pub Added : Result Unit DraftRefusal → ℕ → ℕ → ℕ → ℕ → Draft → Draft → Type 0
Added r number a b n before after = MatchResult r
    (λ _. OfTemplate number (λ t. CuesBelow (draft_content before).cues t a b × Right (arguments_of t) a b n × Room (draft_content before)
    × (draft_content after ≡ with_rule (draft_content before) (kept t a b n))))
    (λ e. NotAdded e (draft_content before) number a b n × (after ≡ before))

-- A rule is struck: later rules move down.
abbrev pub without_rule : Content → ℕ → Content
without_rule c i = record c { rules = remove c.rules i }

-- Striking rule i: where there is none, it is turned down, and the draft is as it was.
abbrev pub Struck : Result Unit DraftRefusal → ℕ → Draft → Draft → Type 0
Struck r i before after = MatchResult r
    (λ _. (i < length (draft_content before).rules) × (draft_content after ≡ without_rule (draft_content before) i))
    (λ e. (e ≡ NoSuchRule) × (length (draft_content before).rules ≤ i) × (after ≡ before))

-- A rule is given another count: all others stay as they are.
abbrev pub with_count : Content → ℕ → Terms → ℕ → Content
with_count c i r n = record c { rules = set c.rules i (retuned r n) }

-- Rule i takes a count.
abbrev pub Counted : Content → ℕ → Terms → Type 0
Counted c i r = RuleAt c i r × (arguments_of r.template ≡ CueAndCount)

-- Why it is not: there is no such rule, or it takes no count; or the count is not 1 to 14.
abbrev pub NotRetuned : DraftRefusal → Content → ℕ → ℕ → Type 0
NotRetuned NoSuchRule c i n = (r : Terms) → Counted c i r → ⊥
NotRetuned CountOutside c i n = (r : Terms) × Counted c i r × (CountRight (arguments_of r.template) n → ⊥)
NotRetuned e c i n = ⊥

-- Giving rule i another count: a right one is kept; any other, or any for a rule that takes none, is turned down, and the draft is
-- as it was.
abbrev pub RetunedRule : Result Unit DraftRefusal → ℕ → ℕ → Draft → Draft → Type 0
RetunedRule g i n before after = MatchResult g
    (λ _. (r : Terms) × Counted (draft_content before) i r × CountRight (arguments_of r.template) n × (draft_content after ≡ with_count (draft_content before) i r n))
    (λ e. NotRetuned e (draft_content before) i n × (after ≡ before))

-- A rule's own refusals are those of the draft.
abbrev pub of_rule : RuleRefusal → DraftRefusal
of_rule rule.CountOutside = CountOutside
of_rule rule.SameCue = SameCue

-- The published numbers of the refusals.
abbrev pub draft_number : DraftRefusal → ℕ
draft_number NoSuchTemplate = 8
draft_number NoSuchCue = 9
draft_number CountOutside = refusal_number rule.CountOutside
draft_number SameCue = refusal_number rule.SameCue
draft_number Full = 12
draft_number NoSuchRule = 13

-- What is printed of the refusals.
abbrev pub draft_words : DraftRefusal → List ℕ
draft_words NoSuchTemplate = codes "the template is not 1 to 21"
draft_words NoSuchCue = codes "a cue is not below the cue count"
draft_words CountOutside = refusal_words rule.CountOutside
draft_words SameCue = refusal_words rule.SameCue
draft_words Full = codes "sixteen rules are held"
draft_words NoSuchRule = codes "there is no such rule, or it takes no count"
