-- What the calls answer that read a book at a position, and why they are turned down.
-- Assumes nothing.
use Rattle.std.specs.Prelude.{◌≡◌, ℕ, ◌<◌, ◌≤◌, ◌↔◌, ◌⊎◌, Bool, List, length, Result, MatchResult, codes, IsTrue}
use Rattle.machine.specs.Show.{Show, Cued}
use Rattle.machine.specs.Meaning.{leads_to}
use Rattle.rules.specs.declared.templates.Template.TheVariants.{Response}
use Rattle.rules.specs.declared.rules.Rule.{Rule}
use Rattle.rules.specs.Rule.{Terms, terms, HoldsOf, states_of}
use Rattle.book.specs.declared.values.Value.{Value}
use Rattle.book.specs.declared.values.ReadingRefusal.{ReadingRefusal}
use Rattle.book.specs.declared.values.ReadingRefusal.TheVariants.{NoSuchCue, NoSuchRule, NoSuchState}
use Rattle.book.specs.Content.{Content, RuleAt}
use Rattle.book.specs.declared.books.Book.{Book}
use Rattle.book.specs.Book.{part, book_content, book_meaning}
use Rattle.book.specs.Value.{Reads, Relevant, after_show, from_state}

-- The position has a state of rule i, which says this.
abbrev pub StateOf : Content → ℕ → ℕ → Terms → Type 0
StateOf c p i r = RuleAt c i r × (part p i < states_of r)

-- Why a position is not read: the first of the two that fails, and for relevance of the three.
abbrev pub NotRead : ReadingRefusal → Content → ℕ → ℕ → Type 0
NotRead NoSuchRule c p i = length c.rules ≤ i
NotRead NoSuchState c p i = (r : Terms) × RuleAt c i r × (states_of r ≤ part p i)
NotRead NoSuchCue c p i = ⊥

abbrev pub NotWeighed : ReadingRefusal → Content → ℕ → ℕ → ℕ → Type 0
NotWeighed NoSuchRule c p i q = NotRead NoSuchRule c p i
NotWeighed NoSuchState c p i q = NotRead NoSuchState c p i
NotWeighed NoSuchCue c p i q = (r : Terms) × StateOf c p i r × (c.cues ≤ q)

-- Looking up rule i and the state of it that a position has.
abbrev pub Stands : Result (Rule × ℕ) ReadingRefusal → Content → ℕ → ℕ → Type 0
Stands answer c p i = MatchResult answer (λ found. StateOf c p i (terms found.0) × (found.1 ≡ part p i)) (λ e. NotRead e c p i)

-- Reading rule i at a position, by the state that the position has of it.
abbrev pub Read : Result (Value × ℕ) ReadingRefusal → Content → ℕ → ℕ → Type 0
Read answer c p i = MatchResult answer
    (λ told. (r : Terms) × StateOf c p i r × Reads c.cues (from_state r (part p i)) told.0 told.1)
    (λ e. NotRead e c p i)

-- Reading rule i behind a show, by what the rule says of the show and of all that can follow it. There only the rule can be
-- missing.
abbrev pub ReadBehind : Result (Value × ℕ) ReadingRefusal → Content → Show → ℕ → Type 0
ReadBehind answer c s i = MatchResult answer
    (λ told. (r : Terms) × RuleAt c i r × Reads c.cues (after_show r s) told.0 told.1)
    (λ e. (e ≡ NoSuchRule) × (length c.rules ≤ i))

-- At every position to which a show of the book's cues leads, it is read as behind that show.
unfoldable pub ReadBehindShows : Result (Value × ℕ) ReadingRefusal → Book → ℕ → ℕ → Type 0
ReadBehindShows answer b p i = (s : Show) → Cued b.cues s → p ≡ leads_to (book_meaning b).steps s → ReadBehind answer (book_content b) s i

-- Two right readings of a state are the same.
unfoldable pub OneReading : Type 0
OneReading = (count : ℕ) (r : Terms) (s : ℕ) (w x : Value) (m n : ℕ) → Reads count (from_state r s) w m → Reads count (from_state r s) x n → (w ≡ x) × (m ≡ n)

-- Weighing a cue for rule i at a position, and behind a show.
abbrev pub Weighed : Result Bool ReadingRefusal → Content → ℕ → ℕ → ℕ → Type 0
Weighed answer c p i q = MatchResult answer
    (λ yes. (r : Terms) × StateOf c p i r × (q < c.cues) × (IsTrue yes ↔ Relevant c.cues (from_state r (part p i)) q))
    (λ e. NotWeighed e c p i q)

abbrev pub WeighedBehind : Result Bool ReadingRefusal → Content → Show → ℕ → ℕ → Type 0
WeighedBehind answer c s i q = MatchResult answer
    (λ yes. (r : Terms) × RuleAt c i r × (q < c.cues) × (IsTrue yes ↔ Relevant c.cues (after_show r s) q))
    (λ e. ((e ≡ NoSuchRule) × (length c.rules ≤ i)) ⊎ ((e ≡ NoSuchCue) × (i < length c.rules) × (c.cues ≤ q)))

-- At every position to which a show of the book's cues leads, a cue is weighed as behind that show.
unfoldable pub WeighedBehindShows : Result Bool ReadingRefusal → Book → ℕ → ℕ → ℕ → Type 0
WeighedBehindShows answer b p i q = (s : Show) → Cued b.cues s → p ≡ leads_to (book_meaning b).steps s → WeighedBehind answer (book_content b) s i q

-- While a response is pending, which is while it does not hold, one more A is not relevant.
unfoldable pub SecondANotRelevant : Type 0
SecondANotRelevant = (count : ℕ) (r : Terms) (s : Show) → r.template ≡ Response → (HoldsOf r s → ⊥) → Relevant count (after_show r s) r.a → ⊥

-- The published numbers of the refusals.
abbrev pub reading_number : ReadingRefusal → ℕ
reading_number NoSuchCue = 9
reading_number NoSuchRule = 13
reading_number NoSuchState = 18

-- What is printed of the refusals.
abbrev pub reading_words : ReadingRefusal → List ℕ
reading_words NoSuchCue = codes "the cue is not below the cue count"
reading_words NoSuchRule = codes "there is no such rule"
reading_words NoSuchState = codes "the position holds a state that the rule lacks"
