-- What a bench opened new answers to its first grant.
-- Assumes nothing.
use Rattle.std.proofs.Common.{◌≡◌, ℕ, ◌-◌, ap, arith}
use Rattle.machine.specs.Meaning.{Meaning}
use Rattle.search.specs.Search.{opened, continued, after}
use Rattle.search.specs.Calls.{Advance, Worked}
use Rattle.bench.specs.declared.benches.Bench.{Bench}
use Rattle.bench.specs.declared.cells.TheConstants.{LIMIT}
use Rattle.bench.specs.Bench.{Called}

-- Opening works no pair.
opened_worked : (l r : Meaning) → (opened l r).worked ≡ 0
opened_worked l r = grind arith

-- So the answer is how many are worked after so many units.
pub first_grant : {L R : Type 0} (lefts : L → Meaning) (rights : R → Meaning) (left : L) (right : R) (b next : Bench L R) (m n : ℕ)
    → (b.left ≡ left) × (b.right ≡ right) → b.state ≡ opened (lefts left) (rights right) → Called lefts rights (Advance m) (Worked n) b next
    → n ≡ (after (lefts left) (rights right) LIMIT m).worked
first_grant lefts rights left right b next m n (same_left, same_right) new call =
    let answer : n ≡ (continued (lefts left) (rights right) LIMIT m b.state).worked - b.state.worked = rw (← same_left, ← same_right) (cc call.answered) in
    omega (arith, answer, opened_worked (lefts left) (rights right), ap (λ st. st.worked) new, ap (λ st. (continued (lefts left) (rights right) LIMIT m st).worked) new)
