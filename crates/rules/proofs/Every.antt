-- Tests over everything of a kind, for the checker to compute, and what a test that is passed tells.
-- Assumes nothing.
use Rattle.std.proofs.Common.{◌≡◌, ℕ, zero, suc, ◌-◌, ◌<◌, ◌≤◌, Bool, true, false, ◌&&◌, ◌||◌, List, [], ◌∷◌, refl, ◌⊎◌, inl, inr, arith, IsTrue, Some, slice_get}
use Rattle.std.specs.List.{list_all, list_any}
use Rattle.std.proofs.lemmas.Bool.{and_parts, or_cases}
use Rattle.rules.specs.declared.letters.Letter.{Letter}
use Rattle.rules.specs.declared.letters.Letter.TheVariants.{A, B, Other}
use Rattle.rules.specs.declared.templates.Template.{Template}
use Rattle.rules.specs.declared.templates.Template.TheVariants.{Existence, Absence, Exactly, Init, Last, RespondedExistence, CoExistence, Response, Precedence, Succession, AlternateResponse, AlternatePrecedence, AlternateSuccession, ChainResponse, ChainPrecedence, ChainSuccession, NotCoExistence, NotSuccession, NotChainSuccession, Choice, ExclusiveChoice}
use Rattle.rules.specs.Form.{most_times}
use Rattle.rules.specs.Naming.{template_number}
use Rattle.rules.specs.Word.{Word}
use Rattle.rules.proofs.Ahead.{Ahead}

-- Both truth values, and every letter.
abbrev every_value : (Bool → Bool) → Bool
every_value f = f true && f false

value_passes : (f : Bool → Bool) → IsTrue (every_value f) → (b : Bool) → IsTrue (f b)
value_passes f h true = (and_parts _ _ h).0
value_passes f h false = (and_parts _ _ h).1

abbrev pub every_letter : (Letter → Bool) → Bool
every_letter f = f A && (f B && f Other)

pub letter_passes : (f : Letter → Bool) → IsTrue (every_letter f) → (l : Letter) → IsTrue (f l)
letter_passes f h A = (and_parts _ _ h).0
letter_passes f h B = (and_parts _ _ (and_parts _ _ h).1).0
letter_passes f h Other = (and_parts _ _ (and_parts _ _ h).1).1

-- Every number below another.
abbrev pub every_below : ℕ → (ℕ → Bool) → Bool
every_below zero f = true
every_below (suc n) f = f n && every_below n f

pub below_passes : (n : ℕ) (f : ℕ → Bool) → IsTrue (every_below n f) → (k : ℕ) → k < n → IsTrue (f k)
below_passes zero f h k lt = absurd (omega arith)
below_passes (suc n) f h k lt =
    let last_or_before : (k ≡ n) ⊎ (k < n) = grind arith in
    elim last_or_before [ inl e ↦ rw e (and_parts _ _ h).0 | inr before ↦ below_passes n f (and_parts _ _ h).1 k before ]

-- Every template.
abbrev pub templates : List Template
templates = Existence ∷ Absence ∷ Exactly ∷ Init ∷ Last ∷ RespondedExistence ∷ CoExistence ∷ Response ∷ Precedence ∷ Succession ∷ AlternateResponse ∷ AlternatePrecedence ∷ AlternateSuccession ∷ ChainResponse ∷ ChainPrecedence ∷ ChainSuccession ∷ NotCoExistence ∷ NotSuccession ∷ NotChainSuccession ∷ Choice ∷ ExclusiveChoice ∷ []

listed : (t : Template) → slice_get templates (template_number t - 1) ≡ Some t
listed Existence = refl
listed t = refl

listed_passes : (f : Template → Bool) (ts : List Template) → IsTrue (list_all f ts) → (i : ℕ) (t : Template) → slice_get ts i ≡ Some t → IsTrue (f t)
listed_passes f [] h i t is = cc
listed_passes f (u ∷ ts) h zero t is = let e : u ≡ t = cc in rw (← e) (and_parts _ _ h).0
listed_passes f (u ∷ ts) h (suc i) t is = listed_passes f ts (and_parts _ _ h).1 i t is

abbrev pub every_template : (Template → Bool) → Bool
every_template f = list_all f templates

pub template_passes : (f : Template → Bool) → IsTrue (every_template f) → (t : Template) → IsTrue (f t)
template_passes f h t = listed_passes f templates h (template_number t - 1) t (listed t)

-- Every template with every count up to the highest.
abbrev pub every_rule : (Template → ℕ → Bool) → Bool
every_rule f = every_template (λ t. every_below (suc most_times) (f t))

pub rule_passes : (f : Template → ℕ → Bool) → IsTrue (every_rule f) → (t : Template) (n : ℕ) → n ≤ most_times → IsTrue (f t n)
rule_passes f h t n le = below_passes (suc most_times) (f t) (template_passes (λ t. every_below (suc most_times) (f t)) h t) n (omega arith)

-- Some letter; some number below another; some word of a list.
abbrev pub some_letter : (Letter → Bool) → Bool
some_letter f = f A || (f B || f Other)

pub letter_found : (f : Letter → Bool) → IsTrue (some_letter f) → (l : Letter) × IsTrue (f l)
letter_found f h = elim (or_cases _ _ h) [ inl a ↦ (A, a) | inr h ↦ elim (or_cases _ _ h) [ inl b ↦ (B, b) | inr other ↦ (Other, other) ] ]

abbrev pub some_below : ℕ → (ℕ → Bool) → Bool
some_below zero f = false
some_below (suc n) f = f n || some_below n f

pub below_found : (n : ℕ) (f : ℕ → Bool) → IsTrue (some_below n f) → (k : ℕ) × (k < n) × IsTrue (f k)
below_found zero f h = cc
below_found (suc n) f h = elim (or_cases _ _ h) [ inl here ↦ (n, omega arith, here) | inr h ↦ (let k = below_found n f h in (k.0, omega (arith, k.1), k.2)) ]

pub word_found : (f : Word → Bool) (ws : List Word) → IsTrue (list_any f ws) → (w : Word) × IsTrue (f w)
word_found f [] h = cc
word_found f (w ∷ ws) h = elim (or_cases _ _ h) [ inl here ↦ (w, here) | inr h ↦ word_found f ws h ]

-- Every two truth values, every four, and everything that may matter of the rest of a word.
abbrev every_two : (Bool → Bool → Bool) → Bool
every_two f = every_value (λ a. every_value (f a))

two_pass : (f : Bool → Bool → Bool) → IsTrue (every_two f) → (a b : Bool) → IsTrue (f a b)
two_pass f h a b = value_passes (f a) (value_passes (λ a. every_value (f a)) h a) b

abbrev every_four : (Bool → Bool → Bool → Bool → Bool) → Bool
every_four f = every_two (λ a b. every_two (f a b))

four_pass : (f : Bool → Bool → Bool → Bool → Bool) → IsTrue (every_four f) → (a b c d : Bool) → IsTrue (f a b c d)
four_pass f h a b c d = two_pass (f a b) (two_pass (λ a b. every_two (f a b)) h a b) c d

abbrev rest_of : Bool → Bool → Bool → Bool → Bool → Bool → Bool → Bool → Ahead
rest_of a b c d e g h i = record { empty = a; a_first = b; a_last = c; some_a = d; b_next = e; answered = g; preceded = h; preceded_behind = i }

abbrev pub every_rest : (Ahead → Bool) → Bool
every_rest f = every_four (λ a b c d. every_four (λ e g h i. f (rest_of a b c d e g h i)))

pub rest_passes : (f : Ahead → Bool) → IsTrue (every_rest f) → (r : Ahead) → IsTrue (f r)
rest_passes f h r = four_pass (λ e g h i. f (rest_of r.empty r.a_first r.a_last r.some_a e g h i)) (four_pass (λ a b c d. every_four (λ e g h i. f (rest_of a b c d e g h i))) h r.empty r.a_first r.a_last r.some_a) r.b_next r.answered r.preceded r.preceded_behind
