-- Books: what one means as a machine.
-- Assumes nothing.
use Rattle.std.specs.Prelude.{◌≡◌, ℕ, ◌+◌, ◌*◌, ◌/◌, ◌%◌, ◌^◌, ◌<◌, ◌≤◌, Bool, true, ◌&&◌, ◌↔◌, List, [], ◌∷◌, length, nat_lt, if◌then◌else◌, IsTrue}
use Rattle.machine.specs.Show.{Show, Cued}
use Rattle.machine.specs.Meaning.{Stepping, Meaning, leads_to, Allows}
use Rattle.rules.specs.Rule.{Terms, letter_of, step_of, closes_at, word_of, HoldsOf}
use Rattle.rules.specs.States.{Undivided}
use Rattle.book.specs.declared.books.Book.{Book}
use Rattle.book.specs.Content.{Content, RuleAt}
use Rattle.book.specs.Held.{held_rules}

-- What a book holds.
abbrev pub book_content : Book → Content
book_content b = record { cues = b.cues; rules = held_rules b.held }

-- A position is written to the base of 16. Rule 0 has the lowest digit, which is its state; the digits above are for the rules
-- after it.
abbrev pub moved : List Terms → ℕ → ℕ → ℕ
moved [] p c = p
moved (r ∷ rs) p c = step_of r (p % 16) (letter_of r c) + 16 * moved rs (p / 16) c

abbrev pub all_close : List Terms → ℕ → Bool
all_close [] p = true
all_close (r ∷ rs) p = closes_at r (p % 16) && all_close rs (p / 16)

-- A book means: start at 0; a cue moves every rule's part of the position by that rule's step, and what is no cue leads nowhere
-- else; a show may close where every rule's state does.
abbrev pub content_meaning : Content → Meaning
content_meaning c = record {
  steps = record {
    cues = c.cues;
    start = 0;
    next = λ p q. if nat_lt q c.cues then moved c.rules p q else p;
  };
  closes = λ p. all_close c.rules p;
}

abbrev pub book_meaning : Book → Meaning
book_meaning b = content_meaning (book_content b)

-- The part of a position that is rule i's state: bits 4i to 4i + 3.
abbrev pub part : ℕ → ℕ → ℕ
part p i = p / 16 ^ i % 16

-- The same meaning part by part, in its own words.
pub record MovesByParts (m : Meaning) (c : Content) : Type 0 where
  pub cues : m.steps.cues ≡ c.cues
  pub start : (i : ℕ) → part m.steps.start i ≡ 0
  -- a cue moves the part of each rule by that rule's step, and keeps the parts beyond the last rule
  pub moves : (p q i : ℕ) (r : Terms) → q < c.cues → RuleAt c i r → part (m.steps.next p q) i ≡ step_of r (part p i) (letter_of r q)
  pub keeps : (p q i : ℕ) → length c.rules ≤ i → part (m.steps.next p q) i ≡ part p i
  -- what is no cue leads nowhere else
  pub stays : (p q : ℕ) → c.cues ≤ q → m.steps.next p q ≡ p
  -- a show may close where every rule's state does
  pub closes : (p : ℕ) → IsTrue (m.closes p) ↔ ((i : ℕ) (r : Terms) → RuleAt c i r → IsTrue (closes_at r (part p i)))

-- Every rule holds of a show.
abbrev pub AllHold : Content → Show → Type 0
AllHold c s = (i : ℕ) (r : Terms) → RuleAt c i r → HoldsOf r s

-- The theorem of books: a show of the book's cues is allowed exactly when every rule's template holds of it.
abbrev pub AllowsWhatHolds : Meaning → Content → Type 0
AllowsWhatHolds m c = (s : Show) → Cued c.cues s → Allows m s ↔ AllHold c s

-- No rule tells two shows apart, whatever letters follow, be there a cue for them or not.
abbrev pub NotToldApart : Content → Show → Show → Type 0
NotToldApart c s t = (i : ℕ) (r : Terms) → RuleAt c i r → Undivided r.template r.n (word_of r s) (word_of r t)

-- The theorem of positions: two shows of the book's cues lead to one position exactly when no rule tells them apart.
abbrev pub OnePosition : Stepping → Content → Type 0
OnePosition m c = (s t : Show) → Cued c.cues s → Cued c.cues t → (leads_to m s ≡ leads_to m t) ↔ NotToldApart c s t
