-- The law over whole shows: a watch stands where the show that it heard leads.
-- Assumes nothing.
use Rattle.std.proofs.Common.{◌≡◌, ℕ, zero, suc, ◌+◌, ◌≤◌, nat_lt, List, [], ◌∷◌, ◌++◌, length, take, Ok, filter, sym, refl, ap, ◌∙◌, arith, take_all}
use Rattle.std.specs.List.{AllByRecursion}
use Rattle.std.proofs.lemmas.Bool.Decides.{nat_tests}
use Rattle.std.proofs.lemmas.List.Sums.{fold-append}
use Rattle.machine.specs.Show.{Show, Cued}
use Rattle.machine.specs.Meaning.{Meaning, led_from, leads_to, allowed}
use Rattle.machine.specs.declared.watches.Watch.{Watch}
use Rattle.machine.specs.Watch.{Standing, standing, longest, watch_meaning, begun, after_cues, answers, closed, heard, WholeShow}

-- A show of cues is kept whole.
cues_kept : (count : ℕ) (s : Show) → Cued count s → filter (λ c. nat_lt c count) s ≡ s
cues_kept count [] h = refl
cues_kept count (c ∷ s) h = grind (arith, nat_tests, h.0, cues_kept count s h.1)

module _ {M : Type 0} (meaning : M → Meaning) (x : M) where
  abbrev count : ℕ
  count = (meaning x).steps.cues

  abbrev at : ℕ → ℕ → Standing M
  at p t = record { machine = x; position = p; taken = t }

  abbrev cues_of : List ℕ → Show
  cues_of calls = filter (λ c. nat_lt c count) calls

  -- From a position p with t cues taken and room for n more.
  stands_from : (p t n : ℕ) (calls : List ℕ) → t + n ≡ longest → after_cues meaning (at p t) calls ≡ at (led_from (meaning x).steps p (take n (cues_of calls))) (t + length (take n (cues_of calls)))
  stands_from p t zero [] room = grind arith
  stands_from p t (suc n) [] room = grind arith
  stands_from p t zero (c ∷ s) room = grind (arith, nat_tests, stands_from p t zero s room)
  stands_from p t (suc n) (c ∷ s) room = grind (arith, nat_tests, stands_from p t (suc n) s room, stands_from ((meaning x).steps.next p c) (t + 1) n s (omega arith))

  taken_from : (p t n : ℕ) (s : Show) → t + n ≡ longest → Cued count s → length s ≤ n → AllByRecursion (λ a. a ≡ Ok tt) (answers meaning (at p t) s)
  taken_from p t n [] room h short = tt
  taken_from p t zero (c ∷ s) room h short = absurd (omega arith)
  taken_from p t (suc n) (c ∷ s) room h short =
      grind (arith, nat_tests, h.0, taken_from ((meaning x).steps.next p c) (t + 1) n s (omega arith) h.1 (omega arith))

  stands : (calls : List ℕ) → after_cues meaning (begun meaning x) calls ≡ at (leads_to (meaning x).steps (heard count calls)) (length (heard count calls))
  stands calls = stands_from (meaning x).steps.start 0 longest calls refl ∙ ap (at _) (omega arith)

  ahead : (calls : List ℕ) (w : Watch M) → standing w ≡ after_cues meaning (begun meaning x) calls → (rest : Show) → allowed (watch_meaning meaning w) rest ≡ allowed (meaning x) (heard count calls ++ rest)
  ahead calls w e rest =
      ap (λ v. (meaning v.machine).closes (led_from (meaning v.machine).steps v.position rest)) (e ∙ stands calls)
      ∙ ap (meaning x).closes (sym (fold-append (meaning x).steps.next (meaning x).steps.start (heard count calls) rest))

  pub whole_show : WholeShow meaning x
  whole_show = record {
    stands = stands;
    closes = λ calls. ap (closed meaning) (stands calls);
    ahead = ahead;
    whole = λ s h short. (ap (take longest) (cues_kept count s h) ∙ take_all longest s short, taken_from (meaning x).steps.start 0 longest s refl h short);
  }
