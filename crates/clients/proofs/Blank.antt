-- Benches of machines with different cue counts.
-- Assumes nothing.
use Rattle.std.proofs.Common.{◌≡◌, ℕ, ◌+◌, List, Err, Result, refl}
use Rattle.machine.specs.Meaning.{Meaning}
use Rattle.search.specs.declared.states.ShowRefusal.{ShowRefusal}
use Rattle.search.specs.declared.states.ShowRefusal.TheVariants.{NoShow}
use Rattle.search.specs.Calls.{Call, Advance, Tally, WriteShow, Answer, Worked, Tallied, Written}
use Rattle.bench.specs.declared.benches.Bench.{Bench}
use Rattle.bench.specs.Bench.{Called, StaysUnlike}
use Rattle.clients.proofs.Handling.{Comes, replying, begins, goes_on}

-- After a grant the tally is asked for, then the show, and then more is granted.
abbrev pub rounds : ℕ → List ℕ → Answer → Call
rounds n before (Worked w) = Tally
rounds n before (Tallied a b) = WriteShow before
rounds n before _ = Advance n

module _ {L R : Type 0} (lefts : L → Meaning) (rights : R → Meaning) (b : Bench L R) (n : ℕ) (before : List ℕ) where
  -- So many rounds were made, and the buffer is as it was.
  pub record Rounds (now' : List ℕ) (here : Bench L R) : Type 0 where
    pub grants : ℕ
    pub come : Comes lefts rights (Advance n) (rounds n before) b grants (Advance n) here
    pub same : now' ≡ before

  pub no_round : Rounds before b
  no_round = record { grants = 0; come = begins lefts rights (Advance n) (rounds n before) b; same = refl }

  -- What a round answers.
  pub record Nothing (w a c : ℕ) (told : Result ℕ ShowRefusal) : Type 0 where
    pub worked : w ≡ 0
    pub counted : a ≡ 0
    pub recorded : c ≡ 0
    pub shown : told ≡ Err NoShow

  module _ (stays : StaysUnlike lefts rights b) (w a c : ℕ) (told : Result ℕ ShowRefusal) (now' then' : List ℕ) (here there : Bench L R) (so : Rounds now' here)
      (call : Called lefts rights (Advance n) (Worked w) here there) (tallied : Called lefts rights Tally (Tallied a c) there there)
      (shown : Called lefts rights (WriteShow now') (Written told then') there there) where
    granted' : Comes lefts rights (Advance n) (rounds n before) b (so.grants + n) Tally there
    granted' = goes_on lefts rights (Advance n) (rounds n before) b so.grants (Advance n) (Worked w) here there so.come call

    looked : Comes lefts rights (Advance n) (rounds n before) b (so.grants + n + 0) (WriteShow before) there
    looked = goes_on lefts rights (Advance n) (rounds n before) b (so.grants + n) Tally (Tallied a c) there there granted' tallied

    also_shown : Called lefts rights (WriteShow before) (Written told then') there there
    also_shown = rw so.same at shown

    pub nothing : Nothing w a c told
    nothing =
        let e = (stays (replying (Advance n) (rounds n before)) so.come.answers so.grants here so.come.run).answers (Advance n) (Worked w) there call in
        let f = (stays (replying (Advance n) (rounds n before)) granted'.answers (so.grants + n) there granted'.run).answers Tally (Tallied a c) there tallied in
        let h = (stays (replying (Advance n) (rounds n before)) looked.answers (so.grants + n + 0) there looked.run).answers (WriteShow before) (Written told then') there also_shown in
        record { worked = cc; counted = cc; recorded = cc; shown = cc }

    pub one_round : Rounds then' there
    one_round =
        let h = (stays (replying (Advance n) (rounds n before)) looked.answers (so.grants + n + 0) there looked.run).answers (WriteShow before) (Written told then') there also_shown in
        record {
          grants = so.grants + n + 0 + 0;
          come = goes_on lefts rights (Advance n) (rounds n before) b (so.grants + n + 0) (WriteShow before) (Written told then') there there looked also_shown;
          same = cc;
        }
