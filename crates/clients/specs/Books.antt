-- What clients say of drafts and books.
-- Assumes nothing.
use Rattle.std.specs.Prelude.{◌≡◌, ◌≢◌, ℕ, ◌<◌, ◌≤◌, ◌++◌, ◌∷◌, length, Some, slice_get}
use Rattle.machine.specs.Show.{Show, Cued}
use Rattle.machine.specs.Meaning.{Allows}
use Rattle.rules.specs.Rule.{Terms, HoldsOf, word_of}
use Rattle.book.specs.declared.books.Book.{Book}
use Rattle.book.specs.declared.drafts.Draft.{Draft}
use Rattle.book.specs.Content.{Content}
use Rattle.book.specs.Book.{book_content, book_meaning}
use Rattle.book.specs.Draft.{draft_content}
use Rattle.clients.specs.Rules.{Inseparable}

-- Rule i of what is held says this.
abbrev pub RuleIs : Content → ℕ → Terms → Type 0
RuleIs c i r = slice_get c.rules i ≡ Some r

-- As many rules are held as there can be.
abbrev pub IsFull : Draft → Type 0
IsFull d = 16 ≤ length (draft_content d).rules

-- Rule i has another count, and the template and the cue that it had.
abbrev pub WithCount : Draft → Draft → ℕ → ℕ → Type 0
WithCount before after i n = (r : Terms) × (s : Terms) × RuleIs (draft_content before) i r × RuleIs (draft_content after) i s × (s.template ≡ r.template) × (s.a ≡ r.a) × (s.n ≡ n)

-- Every rule but rule i is what it was, and so is the cue count.
pub record OthersStay (before after : Draft) (i : ℕ) : Type 0 where
  pub cues : (draft_content after).cues ≡ (draft_content before).cues
  pub rules : (k : ℕ) → k ≢ i → slice_get (draft_content after).rules k ≡ slice_get (draft_content before).rules k

-- A show of the book's cues.
abbrev pub OfItsCues : Book → Show → Type 0
OfItsCues b s = Cued (book_content b).cues s

-- The book allows the show.
abbrev pub IsAllowed : Book → Show → Type 0
IsAllowed b s = Allows (book_meaning b) s

-- Nothing behind two shows makes a rule tell them apart.
abbrev pub NoneTellsApart : Book → Show → Show → Type 0
NoneTellsApart b s t = (i : ℕ) (r : Terms) → RuleIs (book_content b) i r → Inseparable r (word_of r s) (word_of r t)

-- There is a rule i, and it holds of every show that begins with this one.
abbrev pub StaysKept : Book → Show → ℕ → Type 0
StaysKept b s i = (r : Terms) × RuleIs (book_content b) i r × ((v : Show) → OfItsCues b v → HoldsOf r (s ++ v))

-- There is a rule i, and it holds of no show that begins with this one.
abbrev pub StaysBroken : Book → Show → ℕ → Type 0
StaysBroken b s i = (r : Terms) × RuleIs (book_content b) i r × ((v : Show) → OfItsCues b v → HoldsOf r (s ++ v) → ⊥)

-- The number is a cue of the book, and not every show that begins with this show and that cue breaks the rule.
abbrev pub NotBroken : Terms → Book → Show → ℕ → Type 0
NotBroken r b s q = (q < (book_content b).cues) × (((v : Show) → OfItsCues b v → HoldsOf r (s ++ q ∷ v) → ⊥) → ⊥)

-- There is a rule i, and it is not broken for good when this cue comes next.
abbrev pub MayComeNext : Book → Show → ℕ → ℕ → Type 0
MayComeNext b s i q = (r : Terms) × RuleIs (book_content b) i r × NotBroken r b s q

-- Rule i, if there is one, holds of a show.
abbrev pub RuleHolds : Book → ℕ → Show → Type 0
RuleHolds b i s = (r : Terms) → RuleIs (book_content b) i r → HoldsOf r s
