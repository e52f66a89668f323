-- Rules that say the same are one; so two drafts of the same content are one, and so are two books.
-- Assumes nothing.
use Rattle.std.proofs.Common.{◌≡◌, ℕ, ◌≤◌, List, [], ◌∷◌, map, refl, subst, ap}
use Rattle.std.proofs.Props.{props}
use Rattle.rules.specs.declared.rules.Rule.{Rule}
use Rattle.rules.specs.Form.{InForm}
use Rattle.rules.specs.Naming.{arguments_of}
use Rattle.rules.specs.Rule.{Terms, terms}
use Rattle.book.specs.declared.held.Held.{Held}
use Rattle.book.specs.declared.drafts.Draft.{Draft}
use Rattle.book.specs.declared.books.Book.{Book}
use Rattle.book.specs.Held.{Tidy, held_rules}
use Rattle.book.specs.Draft.{draft_content}
use Rattle.book.specs.Book.{book_content}
use Rattle.book.specs.Whole.{WholeInContent}
use Rattle.book.proofs.Places.{told_by_rules}

-- What is said of a rule's form has one proof at most.
form_once : (r : Terms) → IsProp (InForm (arguments_of r.template) r.a r.b r.n)
form_once r = hlevel props

abbrev rule_of : (x : Terms) → InForm (arguments_of x.template) x.a x.b x.n → Rule
rule_of x form = record { template = x.template; a = x.a; b = x.b; n = x.n; in_form = form }

same_rule : (r s : Rule) → terms r ≡ terms s → r ≡ s
same_rule r s e =
    subst (λ x. (form : InForm (arguments_of x.template) x.a x.b x.n) → r ≡ rule_of x form) e (λ form. ap (rule_of (terms r)) (form_once (terms r) r.in_form form)) s.in_form

same_rules : (rs ss : List Rule) → map terms rs ≡ map terms ss → rs ≡ ss
same_rules [] [] e = refl
same_rules [] (s ∷ ss) e = cc
same_rules (r ∷ rs) [] e = cc
same_rules (r ∷ rs) (s ∷ ss) e =
    let first : r ≡ s = same_rule r s cc in
    let rest : rs ≡ ss = same_rules rs ss cc in
    cc

-- So rules held in the same way are, and with the cue count they are all of a draft, and of a book.
abbrev held_of : List Rule → ℕ → Held
held_of rs count = record { rules = rs; count = count }

same_held : (h g : Held) → Tidy h → Tidy g → held_rules h ≡ held_rules g → h ≡ g
same_held h g tidy also same =
    let (count, places) = told_by_rules h g tidy also same in
    let rules : h.rules ≡ g.rules = same_rules h.rules g.rules places in
    let one : held_of h.rules h.count ≡ held_of g.rules g.count = cc in
    one

-- What is so of both has one proof at most.
abbrev Kept : ℕ × Held → Type 0
Kept (cues, held) = (1 ≤ cues) × (cues ≤ 32) × Tidy held

kept_once : (x : ℕ × Held) → IsProp (Kept x)
kept_once x = hlevel props

abbrev parts : ℕ → Held → ℕ × Held
parts cues held = (cues, held)

same_parts : (k l : ℕ) (h g : Held) → k ≡ l → h ≡ g → parts k h ≡ parts l g
same_parts k l h g e f = cc

abbrev draft_of : (x : ℕ × Held) → Kept x → Draft
draft_of x kept = record { cues = x.0; held = x.1; some_cues = kept.0; few_cues = kept.1; tidy = kept.2 }

same_draft : (d e : Draft) → draft_content d ≡ draft_content e → d ≡ e
same_draft d e same =
    subst (λ x. (kept : Kept x) → d ≡ draft_of x kept) (same_parts d.cues e.cues d.held e.held (ap (λ c. c.cues) same) (same_held d.held e.held d.tidy e.tidy (ap (λ c. c.rules) same)))
    (λ kept. ap (draft_of (d.cues, d.held)) (kept_once (d.cues, d.held) (d.some_cues, d.few_cues, d.tidy) kept)) (e.some_cues, e.few_cues, e.tidy)

abbrev book_of : (x : ℕ × Held) → Kept x → Book
book_of x kept = record { cues = x.0; held = x.1; some_cues = kept.0; few_cues = kept.1; tidy = kept.2 }

same_book : (b c : Book) → book_content b ≡ book_content c → b ≡ c
same_book b c same =
    subst (λ x. (kept : Kept x) → b ≡ book_of x kept) (same_parts b.cues c.cues b.held c.held (ap (λ k. k.cues) same) (same_held b.held c.held b.tidy c.tidy (ap (λ k. k.rules) same)))
    (λ kept. ap (book_of (b.cues, b.held)) (kept_once (b.cues, b.held) (b.some_cues, b.few_cues, b.tidy) kept)) (c.some_cues, c.few_cues, c.tidy)

pub whole_in_content : WholeInContent
whole_in_content = record { drafts = same_draft; books = same_book }
