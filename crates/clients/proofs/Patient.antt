-- Granting and asking by turns.
-- Assumes nothing.
use Rattle.std.proofs.Common.{◌≡◌, ◌≢◌, ℕ, ◌+◌, ◌*◌, ◌≤◌, ◌⊎◌, inl, inr, sym, subst, arith}
use Rattle.machine.specs.Meaning.{Meaning}
use Rattle.search.specs.declared.states.Verdict.{Verdict}
use Rattle.search.specs.declared.states.Verdict.TheVariants.{Open}
use Rattle.search.specs.Calls.{Call, Advance, Tally, AskVerdict, Answer, Worked, Told}
use Rattle.bench.specs.declared.benches.Bench.{Bench}
use Rattle.bench.specs.declared.cells.TheConstants.{LIMIT}
use Rattle.bench.specs.Bench.{Called}
use Rattle.clients.proofs.Handling.{Comes, goes_on}

-- The verdict is asked for after a grant, and a grant is given when the verdict is told.
abbrev pub by_turns : Answer → Call
by_turns (Worked n) = AskVerdict
by_turns (Told v) = Advance 64
by_turns _ = Tally

module _ {L R : Type 0} (lefts : L → Meaning) (rights : R → Meaning) (b : Bench L R) where
  -- After so many turns.
  abbrev pub Turned : ℕ → Bench L R → Type 0
  Turned k here = Comes lefts rights (Advance 64) by_turns b (64 * k) (Advance 64) here

  -- One more turn.
  pub one_turn : (k n : ℕ) (v : Verdict) (here there : Bench L R) → Turned k here → Called lefts rights (Advance 64) (Worked n) here there
      → Called lefts rights AskVerdict (Told v) there there → Turned (k + 1) there
  one_turn k n v here there so advanced asked =
      let worked = goes_on lefts rights (Advance 64) by_turns b (64 * k) (Advance 64) (Worked n) here there so advanced in
      let told = goes_on lefts rights (Advance 64) by_turns b (64 * k + 64) AskVerdict (Told v) there there worked asked in
      subst (λ g. Comes lefts rights (Advance 64) by_turns b g (Advance 64) there) (omega arith) told

  -- So many turns were enough, or the verdict has fallen after one more.
  pub record Ended (here : Bench L R) : Type 0 where
    pub grants : ℕ
    pub next : Call
    pub come : Comes lefts rights (Advance 64) by_turns b grants next here
    pub fallen : (LIMIT ≤ grants) ⊎ (here.state.verdict ≢ Open)

  pub ended_in_time : (k : ℕ) (here there : Bench L R) → 32 ≤ k → there ≡ here → Turned k here → Ended there
  ended_in_time k here there h e so = record { grants = 64 * k; next = Advance 64; come = subst (Comes lefts rights (Advance 64) by_turns b (64 * k) (Advance 64)) (sym e) so; fallen = inl (omega arith) }

  pub ended_early : (k n : ℕ) (v : Verdict) (here there last : Bench L R) → last ≡ there → Turned k here → Called lefts rights (Advance 64) (Worked n) here there
      → Called lefts rights AskVerdict (Told v) there there → v ≢ Open → Ended last
  ended_early k n v here there last e so advanced asked shut = record {
    grants = 64 * (k + 1);
    next = Advance 64;
    come = subst (Comes lefts rights (Advance 64) by_turns b (64 * (k + 1)) (Advance 64)) (sym e) (one_turn k n v here there so advanced asked);
    fallen = inr (λ open'. shut (let told = asked.answered in cc));
  }
