-- A book keeps the laws of machines.
-- Assumes nothing.
use Rattle.std.proofs.Common.{rules, Bool, true, false, if◌then◌else◌, nat_lt, ◌++◌, ◌≡◌, ℕ, zero, suc, ◌*◌, ◌/◌, ◌%◌, ◌^◌, ◌<◌, ◌≤◌, ◌⊎◌, inl, inr, List, [], ◌∷◌, length, map, take, sym, arith}
use Rattle.std.proofs.lemmas.List.{take-map, length-take}
use Rattle.std.proofs.lemmas.Bool.Decides.{nat_tests}
use Rattle.std.proofs.Math.Nat.{pow-succ'}
use Rattle.machine.specs.Meaning.{Lawful}
use Rattle.rules.specs.declared.letters.Letter.{Letter}
use Rattle.rules.specs.declared.rules.Rule.{Rule}
use Rattle.rules.specs.Rule.{terms, letter_of, step_of, states_of}
use Rattle.rules.proofs.Numbering.{led_on, rule_states}
use Rattle.book.specs.declared.books.Book.{Book}
use Rattle.book.specs.declared.held.Held.{Held}
use Rattle.book.specs.Held.{most_rules, held_rules}
use Rattle.book.specs.Book.{book_meaning, moved}

-- A rule leads from one of 16 states to one of 16: its own states lead to its own, and any other to itself.
pub step_below : (r : Rule) (s : ℕ) (l : Letter) → s < 16 → step_of (terms r) s l < 16
step_below r s l low = elim (own_or_not s) [ inl own ↦ among own | inr beyond ↦ rw ((rule_states r).stays s l beyond) low ]
  where
    own_or_not : (s : ℕ) → (s < states_of (terms r)) ⊎ (states_of (terms r) ≤ s)
    own_or_not s = search rules

    among : s < states_of (terms r) → step_of (terms r) s l < 16
    among own = let (v, by) = (rule_states r).reached s own in
        let there : step_of (terms r) s l < states_of (terms r) = rw (sym by.1) (rw (sym (led_on (terms r).template (terms r).n v (l ∷ []))) ((rule_states r).within (v ++ l ∷ []))) in
        omega (arith, there, (rule_states r).few)

-- So a position of as many digits as there are rules, or more, leads to one of as many digits.
pub moved_below : (rs : List Rule) (k p c : ℕ) → length rs ≤ k → p < 16 ^ k → moved (map terms rs) p c < 16 ^ k
moved_below [] k p c few low = low
moved_below (r ∷ rs) zero p c few low = absurd (omega arith)
moved_below (r ∷ rs) (suc k) p c few low =
    let digit = step_below r (p % 16) (letter_of (terms r) c) (omega arith) in
    let up : 16 ^ suc k ≡ 16 * 16 ^ k = pow-succ' 16 k in
    let above = moved_below rs k (p / 16) c (omega arith) (omega (arith, up)) in
    omega (arith, up)

-- So do the rules that are held, from any position.
held_below : (h : Held) (p c : ℕ) → h.count ≤ most_rules → p < 2 ^ 64 → moved (held_rules h) p c < 2 ^ 64
held_below h p c room low = rw (take-map terms h.count h.rules) (moved_below (take h.count h.rules) 16 p c (omega (arith, length-take h.count h.rules)) low)

-- The laws of machines.
pub lawful : (b : Book) → Lawful (book_meaning b).steps
lawful b = record {
  some = b.some_cues;
  few = b.few_cues;
  stays = λ p c past. grind (arith, nat_tests);
  begins = omega arith;
  within = within;
}
  where
    within : (p c : ℕ) → p < 2 ^ 64 → (book_meaning b).steps.next p c < 2 ^ 64
    within p c low = below (nat_lt c b.cues)
      where
        below : (inside : Bool) → (if inside then moved (held_rules b.held) p c else p) < 2 ^ 64
        below true = held_below b.held p c b.tidy.room low
        below false = low
