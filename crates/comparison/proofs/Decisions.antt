-- What a client knows of calls on a bench opened new: all the grants that a verdict can need, and then the verdict, the
-- tally and the show. Only the contracts of the calls are used.
-- Assumes nothing.
use Rattle.std.proofs.Common.{◌≡◌, ℕ, List, le_refl}
use Rattle.machine.specs.Show.{Show}
use Rattle.machine.specs.Meaning.{Meaning}
use Rattle.search.specs.declared.states.Verdict.{Verdict}
use Rattle.search.specs.Search.{recorded, after}
use Rattle.search.specs.Rank.{FirstInRank}
use Rattle.search.specs.Units.{show_after, TallyTells}
use Rattle.search.specs.Calls.{Advance, Tally, AskVerdict, WriteShow, Worked, Tallied, Told, Written, Strategy}
use Rattle.bench.specs.declared.benches.Bench.{Bench}
use Rattle.bench.specs.declared.cells.TheConstants.{LIMIT}
use Rattle.bench.specs.Bench.{Called, untouched, then_called, TellsTheTruth, StaysUnlike}
use Rattle.comparison.specs.declared.deciding.Decision.{Decision}
use Rattle.comparison.specs.Deciding.{Decided, NotCompared}

-- The only call before the others.
abbrev grant_all : Strategy
grant_all answers = Advance LIMIT

-- What numbers tell is told of the same numbers.
told_alike : (l r : Meaning) (shows : ℕ → Show) (v v' : Verdict) (n n' m m' : ℕ) → v ≡ v' → n ≡ n' → m ≡ m'
    → FirstInRank l.steps r.steps m' shows × TallyTells l r LIMIT shows n' m' v' → FirstInRank l.steps r.steps m shows × TallyTells l r LIMIT shows n m v
told_alike l r shows v v' n n' m m' e f g told = rw (e, f, g) told

module _ {L R : Type 0} (lefts : L → Meaning) (rights : R → Meaning) (b next : Bench L R) (d : Decision L R) (n : ℕ) (before now' : List ℕ)
    (first : Called lefts rights (Advance LIMIT) (Worked n) b next) (told : Called lefts rights AskVerdict (Told d.verdict) next next)
    (tallied : Called lefts rights Tally (Tallied d.tally.worked d.tally.recorded) next next)
    (shown : Called lefts rights (WriteShow before) (Written d.length now') next next) where
  abbrev l : Meaning
  l = lefts b.left

  abbrev r : Meaning
  r = rights b.right

  decided_here : TellsTheTruth lefts rights b → Decided l r d before now'
  decided_here truth =
      let here = truth.always grant_all _ _ next (then_called untouched first) in
      let (answer, when) = here.truly AskVerdict (Told d.verdict) next told in
      let (counts, ranked) = here.truly Tally (Tallied d.tally.worked d.tally.recorded) next tallied in
      let true_one : d.verdict ≡ (after l r LIMIT LIMIT).verdict = cc in
      let worked : d.tally.worked ≡ (after l r LIMIT LIMIT).worked = cc in
      let recorded' : d.tally.recorded ≡ recorded (after l r LIMIT LIMIT) = cc in
      let (first, tells) = told_alike l r (show_after l r LIMIT LIMIT) d.verdict _ d.tally.worked _ d.tally.recorded _ true_one worked recorded' (ranked.first, ranked.tells) in
      record {
        verdict = rw true_one (when.enough (le_refl LIMIT));
        tally = record { worked = worked; recorded = recorded'; shows = show_after l r LIMIT LIMIT; first = first; tells = tells };
        show = rw true_one (here.truly (WriteShow before) (Written d.length now') next shown);
      }

  pub decided : (left : L) (right : R) → (b.left ≡ left) × (b.right ≡ right) → TellsTheTruth lefts rights b → Decided (lefts left) (rights right) d before now'
  decided left right (same_left, same_right) truth = rw (← same_left, ← same_right) (decided_here truth)

  pub not_compared : StaysUnlike lefts rights b → NotCompared d before now'
  not_compared unlike =
      let here = (unlike grant_all _ _ next (then_called untouched first)).answers in
      let verdict = here AskVerdict (Told d.verdict) next told in
      let counts = here Tally (Tallied d.tally.worked d.tally.recorded) next tallied in
      let show = here (WriteShow before) (Written d.length now') next shown in
      record { verdict = cc; worked = cc; recorded = cc; show = cc; buffer = cc }
