-- The same two machines on a bench once more.
-- Assumes nothing.
use Rattle.std.proofs.Common.{◌≡◌, ℕ, List, Result, inl, inr}
use Rattle.std.proofs.lemmas.Bool.{cases_eq}
use Rattle.machine.specs.Meaning.{Meaning}
use Rattle.search.specs.declared.states.Verdict.{Verdict}
use Rattle.search.specs.declared.states.ShowRefusal.{ShowRefusal}
use Rattle.search.specs.Calls.{Call, Answer, AskVerdict, Tally, WriteShow, Told, Tallied, Written}
use Rattle.bench.specs.declared.benches.Bench.{Bench}
use Rattle.bench.specs.Bench.{Called, TellsTheTruth, StaysUnlike}
use Rattle.clients.specs.Comparing.{SameCues}
use Rattle.clients.proofs.Handling.{replying, Comes}
use Rattle.clients.proofs.Told.{Opened, Reached, state_same, state_unlike}

module _ {L R : Type 0} (lefts : L → Meaning) (rights : R → Meaning) where
  -- A bench that is opened over machines that are x and y.
  pub opened_over : (x x' : L) (y y' : R) (b : Bench L R) → x' ≡ x → y' ≡ y → (b.left ≡ x') × (b.right ≡ y')
      → (SameCues (lefts x').steps (rights y').steps → TellsTheTruth lefts rights b) → ((SameCues (lefts x').steps (rights y').steps → ⊥) → StaysUnlike lefts rights b)
      → Opened lefts rights x y b
  opened_over x x' y y' b e f is truth stays =
      let here : Opened lefts rights x' y' b = record { machines = is; truth = truth; stays = stays } in
      rw (← e, ← f) here

  -- A bench that was handled by looking at the last answer.
  pub reached_by : (first : Call) (next : Answer → Call) (x : L) (y : R) (b here : Bench L R) (g : ℕ) (c : Call) → Opened lefts rights x y b
      → Comes lefts rights first next b g c here → Reached lefts rights x y g here
  reached_by first next x y b here g c opened so = record { bench = b; opened = opened; pick = replying first next; answers = so.answers; run = so.run }

  -- Two benches over the same machines, granted as much, come to one state.
  pub one_state : (x : L) (y : R) (g h : ℕ) (here there : Bench L R) → g ≡ h → Reached lefts rights x y g here → Reached lefts rights x y h there → here.state ≡ there.state
  one_state x y g h here there e so also = elim (cases_eq (lefts x).steps.cues (rights y).steps.cues) [
    | inl same ↦ cc (state_same lefts rights x y g here so same, state_same lefts rights x y h there also same)
    | inr differ ↦ cc (state_unlike lefts rights x y g here so differ, state_unlike lefts rights x y h there also differ)
  ]

  -- In one state the verdict, the tally and the show are the same.
  module _ (here there : Bench L R) (e : here.state ≡ there.state) where
    pub one_verdict : (v w : Verdict) → Called lefts rights AskVerdict (Told v) here here → Called lefts rights AskVerdict (Told w) there there → v ≡ w
    one_verdict v w p q = cc (p.answered, q.answered)

    pub one_tally : (a b c d : ℕ) → Called lefts rights Tally (Tallied a b) here here → Called lefts rights Tally (Tallied c d) there there → (a ≡ c) × (b ≡ d)
    one_tally a b c d p q = (cc (p.answered, q.answered), cc (p.answered, q.answered))

    pub one_show : (before now' then' : List ℕ) (t u : Result ℕ ShowRefusal) → Called lefts rights (WriteShow before) (Written t now') here here
        → Called lefts rights (WriteShow before) (Written u then') there there → (t ≡ u) × (now' ≡ then')
    one_show before now' then' t u p q = (cc (p.answered, q.answered), cc (p.answered, q.answered))
