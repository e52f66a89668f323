-- A book moves and closes part by part, so it allows a show exactly when every rule holds of it.
-- Assumes nothing.
use Rattle.std.proofs.Common.{true, false, if◌then◌else◌, nat_lt, ◌≡◌, ℕ, zero, suc, ◌+◌, ◌*◌, ◌/◌, ◌%◌, ◌^◌, ◌<◌, ◌≤◌, Bool, IsTrue, List, [], ◌∷◌, ◌++◌, length, map, take, slice_get, option_map, Option, Some, None, sym, ap, ◌∙◌, refl, arith}
use Rattle.std.proofs.Math.Nat.{div-div-eq-div-mul, pow-succ', zero-div}
use Rattle.std.specs.Option.{unwrap_or}
use Rattle.std.proofs.lemmas.Bool.{and_parts, lt-ltb}
use Rattle.std.proofs.lemmas.Bool.Decides.{nat_tests}
use Rattle.std.proofs.lemmas.Nat.{pow-add}
use Rattle.std.proofs.lemmas.List.{take-map, map-append}
use Rattle.std.proofs.lemmas.Option.{slice_get-map}
use Rattle.std.proofs.lemmas.List.Sums.{fold-append}
use Rattle.machine.specs.Show.{Show, Cued}
use Rattle.machine.specs.Meaning.{Meaning, leads_to}
use Rattle.machine.proofs.ByLast.{by_last}
use Rattle.rules.specs.declared.rules.Rule.{Rule}
use Rattle.rules.specs.Rule.{Terms, terms, letter_of, step_of, closes_at, state_after, word_of}
use Rattle.rules.specs.States.{led}
use Rattle.rules.proofs.Numbering.{led_on}
use Rattle.rules.proofs.Walks.{closes_where_it_holds}
use Rattle.book.specs.declared.held.Held.{Held}
use Rattle.book.specs.Held.{held_rules}
use Rattle.book.specs.Content.{Content, RuleAt}
use Rattle.book.specs.Book.{moved, all_close, part, content_meaning, MovesByParts, AllowsWhatHolds}
use Rattle.book.specs.Law.{step_below}

-- Four bits are a digit.
pub sixteen : (i : ℕ) → 2 ^ (4 * i) ≡ 16 ^ i
sixteen zero = refl
sixteen (suc i) = let e : 4 * suc i ≡ 4 + 4 * i = omega arith in ap (λ k. 2 ^ k) e ∙ pow-add 2 4 (4 * i) ∙ ap (λ k. 16 * k) (sixteen i) ∙ sym (pow-succ' 16 i)

-- Part 0 is the lowest digit; a part further up is one of the digits above it.
pub part_up : (p i : ℕ) → part p (suc i) ≡ part (p / 16) i
part_up p i = ap (λ k. p / k % 16) (pow-succ' 16 i) ∙ ap (λ k. k % 16) (sym (div-div-eq-div-mul p 16 (16 ^ i)))

pub part_low : (p : ℕ) → part p 0 ≡ p % 16
part_low p = omega arith

-- Of a digit and a number above it, part 0 is the digit, and the others are the parts of the number.
lowest : (d p : ℕ) → d < 16 → part (d + 16 * p) 0 ≡ d
lowest d p low = omega arith

above : (d p i : ℕ) → d < 16 → part (d + 16 * p) (suc i) ≡ part p i
above d p i low = part_up (d + 16 * p) i ∙ ap (λ q. part q i) (omega arith)

-- A show of cues in two parts.
pub cued_parts : (k : ℕ) (s v : Show) → Cued k (s ++ v) → Cued k s × Cued k v
cued_parts k [] v cued = (tt, cued)
cued_parts k (q ∷ s) v cued = let (front, back) = cued_parts k s v cued.1 in ((cued.0, front), back)

-- A show behind another leads a rule on from where the other led it.
pub led_further : (r : Terms) (s v : Show) → state_after r (s ++ v) ≡ led r.template r.n (state_after r s) (word_of r v)
led_further r s v = ap (λ w. led r.template r.n 0 w) (map-append (letter_of r) s v) ∙ led_on r.template r.n (word_of r s) (word_of r v)

-- The first rule is the one of number 0.
first_is : (x r : Terms) (rs : List Terms) → slice_get (x ∷ rs) 0 ≡ Some r → x ≡ r
first_is x r rs e = ap (λ o. unwrap_or o x) e

-- The part of each rule moves by that rule's step.
moves : (rs : List Rule) (p c i : ℕ) (r : Terms) → slice_get (map terms rs) i ≡ Some r → part (moved (map terms rs) p c) i ≡ step_of r (part p i) (letter_of r c)
moves [] p c i r e = absurd (cc e)
moves (x ∷ rs) p c zero r e = rw (sym (first_is (terms x) r (map terms rs) e), part_low p) (lowest _ _ (step_below x (p % 16) (letter_of (terms x) c) (omega arith)))
moves (x ∷ rs) p c (suc i) r e = above _ _ i (step_below x (p % 16) (letter_of (terms x) c) (omega arith)) ∙ moves rs (p / 16) c i r e ∙ ap (λ d. step_of r d (letter_of r c)) (sym (part_up p i))

-- The parts beyond the last rule are kept.
keeps : (rs : List Rule) (p c i : ℕ) → length (map terms rs) ≤ i → part (moved (map terms rs) p c) i ≡ part p i
keeps [] p c i beyond = refl
keeps (x ∷ rs) p c zero beyond = absurd (omega arith)
keeps (x ∷ rs) p c (suc i) beyond = above _ _ i (step_below x (p % 16) (letter_of (terms x) c) (omega arith)) ∙ keeps rs (p / 16) c i (omega arith) ∙ sym (part_up p i)

-- All parts may close exactly when each may.
all_then_each : (rs : List Terms) (p : ℕ) → IsTrue (all_close rs p) → (i : ℕ) (r : Terms) → slice_get rs i ≡ Some r → IsTrue (closes_at r (part p i))
all_then_each [] p h i r e = absurd (cc e)
all_then_each (x ∷ rs) p h zero r e = rw (sym (first_is x r rs e), part_low p) (and_parts _ _ h).0
all_then_each (x ∷ rs) p h (suc i) r e = rw (part_up p i) (all_then_each rs (p / 16) (and_parts _ _ h).1 i r e)

each_then_all : (rs : List Terms) (p : ℕ) → ((i : ℕ) (r : Terms) → slice_get rs i ≡ Some r → IsTrue (closes_at r (part p i))) → IsTrue (all_close rs p)
each_then_all [] p h = refl
each_then_all (x ∷ rs) p h =
    let first : IsTrue (closes_at x (p % 16)) = rw (part_low p) at (h 0 x refl) in
    rw first (each_then_all rs (p / 16) (λ i r e. rw (part_up p i) at (h (suc i) r e)))

-- The rules held are the terms of rules.
pub held_are : (h : Held) → held_rules h ≡ map terms (take h.count h.rules)
held_are h = take-map terms h.count h.rules

-- What is held is the terms of a rule.
pub rule_of : (h : Held) (i : ℕ) (r : Terms) → slice_get (held_rules h) i ≡ Some r → (x : Rule) × (terms x ≡ r)
rule_of h i r there = held (slice_get (take h.count h.rules) i) (sym (slice_get-map terms (take h.count h.rules) i) ∙ ap (λ rs. slice_get rs i) (sym (held_are h)) ∙ there)
  where
    held : (found : Option Rule) → option_map terms found ≡ Some r → (x : Rule) × (terms x ≡ r)
    held (Some x) e = (x, ap (λ o. unwrap_or o r) e)
    held None e = absurd (cc e)

module _ (cues : ℕ) (h : Held) where
  abbrev content : Content
  content = record { cues = cues; rules = held_rules h }

  abbrev m : Meaning
  m = content_meaning content

  -- Where a cue of the book leads, and what becomes of the parts.
  cue_moves : (p q : ℕ) → q < cues → m.steps.next p q ≡ moved (map terms (take h.count h.rules)) p q
  cue_moves p q here = rw (lt-ltb q cues here) (ap (λ rs. moved rs p q) (held_are h))

  moved_part : (p q i : ℕ) (r : Terms) → q < cues → RuleAt content i r → part (m.steps.next p q) i ≡ step_of r (part p i) (letter_of r q)
  moved_part p q i r here there = ap (λ k. part k i) (cue_moves p q here) ∙ moves (take h.count h.rules) p q i r (rw (held_are h) at there)

  kept_part : (p q i : ℕ) → length (held_rules h) ≤ i → (inside : Bool) → part (if inside then moved (held_rules h) p q else p) i ≡ part p i
  kept_part p q i beyond true = ap (λ rs. part (moved rs p q) i) (held_are h) ∙ keeps (take h.count h.rules) p q i (rw (held_are h) at beyond)
  kept_part p q i beyond false = refl

  -- So a book moves and closes part by part.
  pub moves_by_parts : MovesByParts m content
  moves_by_parts = record {
    cues = refl;
    start = λ i. ap (λ k. k % 16) (zero-div (16 ^ i));
    moves = moved_part;
    keeps = λ p q i beyond. kept_part p q i beyond (nat_lt q cues);
    stays = λ p q past. grind (arith, nat_tests);
    closes = λ p. (all_then_each (held_rules h) p, each_then_all (held_rules h) p);
  }

  -- A show of the book's cues leads each rule's part to the state to which it leads the rule.
  pub part_after : (i : ℕ) (r : Terms) → RuleAt content i r → (s : Show) → Cued cues s → part (leads_to m.steps s) i ≡ state_after r s
  part_after i r there = by_last (λ s. Cued cues s → part (leads_to m.steps s) i ≡ state_after r s) (λ cued. moves_by_parts.start i) more
    where
      more : (s : Show) (q : ℕ) → (Cued cues s → part (leads_to m.steps s) i ≡ state_after r s) → Cued cues (s ++ q ∷ []) → part (leads_to m.steps (s ++ q ∷ [])) i ≡ state_after r (s ++ q ∷ [])
      more s q before cued =
          let (front, back) = cued_parts cues s (q ∷ []) cued in
          ap (λ k. part k i) (fold-append m.steps.next 0 s (q ∷ [])) ∙ moved_part (leads_to m.steps s) q i r back.0 there
          ∙ ap (λ d. step_of r d (letter_of r q)) (before front) ∙ sym (led_further r s (q ∷ []))

  -- So the book allows such a show exactly when every rule holds of it.
  pub allows_what_holds : AllowsWhatHolds m content
  allows_what_holds s cued = (
    λ closes i r there. (closes_where_it_holds r s).0 (rw (part_after i r there s cued) at (all_then_each (held_rules h) (leads_to m.steps s) closes i r there)),
    λ hold. each_then_all (held_rules h) (leads_to m.steps s) (λ i r there. rw (part_after i r there s cued) ((closes_where_it_holds r s).1 (hold i r there))),
  )
