-- What two grants come to.
-- Assumes nothing.
use Rattle.std.proofs.Common.{◌≡◌, ℕ, ◌+◌, ◌≤◌, inl, inr, arith}
use Rattle.std.proofs.lemmas.Bool.{cases_eq}
use Rattle.machine.specs.Meaning.{Meaning}
use Rattle.search.specs.Calls.{Call, Advance, Tally, Answer, Worked, Tallied}
use Rattle.search.specs.Search.{after}
use Rattle.search.specs.Units.{recorded_after}
use Rattle.bench.specs.declared.cells.TheConstants.{LIMIT}
use Rattle.bench.specs.declared.benches.Bench.{Bench}
use Rattle.bench.specs.Bench.{Called}
use Rattle.clients.proofs.Handling.{Comes, begins, goes_on}
use Rattle.clients.proofs.Told.{Opened, Reached, truly, unlike}
use Rattle.clients.proofs.Again.{reached_by}

-- After the first grant comes the second, whatever was answered.
abbrev then_second : ℕ → Answer → Call
then_second n a = Advance n

-- No more is worked than granted; what both grants worked is recorded, and there is room for what is recorded.
pub record Within (w w' n n' recorded : ℕ) : Type 0 where
  pub first : w ≤ n
  pub second : w' ≤ n'
  pub worked : w + w' ≤ recorded
  pub room : recorded ≤ 2048

module _ {L R : Type 0} (lefts : L → Meaning) (rights : R → Meaning) (x : L) (y : R) (b there last : Bench L R) (n n' w w' a recorded : ℕ) (opened : Opened lefts rights x y b)
    (call : Called lefts rights (Advance n) (Worked w) b there) (again : Called lefts rights (Advance n') (Worked w') there last)
    (told : Called lefts rights Tally (Tallied a recorded) last last) where
  once : Comes lefts rights (Advance n) (then_second n') b (0 + n) (Advance n') there
  once = goes_on lefts rights (Advance n) (then_second n') b 0 (Advance n) (Worked w) b there (begins lefts rights (Advance n) (then_second n') b) call

  pub twice : Comes lefts rights (Advance n) (then_second n') b (0 + n + n') (Advance n') last
  twice = goes_on lefts rights (Advance n) (then_second n') b (0 + n) (Advance n') (Worked w') there last once again

  pub reached : (g : ℕ) (c : Call) (here : Bench L R) → Comes lefts rights (Advance n) (then_second n') b g c here → Reached lefts rights x y g here
  reached g c here so = reached_by lefts rights (Advance n) (then_second n') x y b here g c opened so

  pub within : Within w w' n n' recorded
  within = elim (cases_eq (lefts x).steps.cues (rights y).steps.cues) [
    | inl same ↦
        let (v, e, low, more) = truly lefts rights x y 0 b (reached 0 _ b (begins lefts rights (Advance n) (then_second n') b)) same (Advance n) (Worked w) there call in
        let (v', e', low', more') = truly lefts rights x y (0 + n) there (reached (0 + n) _ there once) same (Advance n') (Worked w') last again in
        let (counts, rank) = truly lefts rights x y (0 + n + n') last (reached (0 + n + n') _ last twice) same Tally (Tallied a recorded) last told in
        let is : v ≡ w = cc in
        let is' : v' ≡ w' = cc in
        let all : a ≡ (after (lefts x) (rights y) LIMIT (0 + n + n')).worked = cc in
        let kept : recorded ≡ recorded_after (lefts x) (rights y) LIMIT (0 + n + n') = cc in
        record { first = omega arith; second = omega arith; worked = omega (arith, more, more', rank.worked); room = omega (arith, rank.room) }
    | inr differ ↦
        let e = unlike lefts rights x y 0 b (reached 0 _ b (begins lefts rights (Advance n) (then_second n') b)) differ (Advance n) (Worked w) there call in
        let e' = unlike lefts rights x y (0 + n) there (reached (0 + n) _ there once) differ (Advance n') (Worked w') last again in
        let counts = unlike lefts rights x y (0 + n + n') last (reached (0 + n + n') _ last twice) differ Tally (Tallied a recorded) last told in
        let none : w ≡ 0 = cc in
        let none' : w' ≡ 0 = cc in
        let nil : recorded ≡ 0 = cc in
        record { first = omega arith; second = omega arith; worked = omega arith; room = omega arith }
  ]
