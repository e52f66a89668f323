use Rattle.std.proofs.Common.{◌≡◌, ◌≢◌, ℕ, ◌+◌, inl, inr, arith}
use Rattle.std.proofs.lemmas.Bool.{cases_lt}
use Rattle.search.specs.declared.states.Verdict.{Verdict}
use Rattle.search.specs.declared.states.Verdict.TheVariants.{Open}
use Rattle.bench.specs.declared.cells.TheConstants.{LIMIT}
use Rattle.clients.proofs.Told.{Opened}
use Rattle.clients.proofs.Steady.{one_grant}
use Rattle.clients.proofs.Again.{one_verdict, one_tally}
use Rattle.clients.proofs.TwoGrants.{twice, reached}
use Rattle.clients.proofs.Fallen.{nothing_changes, has_fallen}
use Rattle.clients.proofs.benches.grants_after_verdict.Goals as goal

-- The pairs are the same when all parts are.
same_pairs : {v w : Verdict} {a b c d : ℕ} → v ≡ w → a ≡ c → b ≡ d → ◌≡◌ {A = Verdict × (ℕ × ℕ)} (v, (a, b)) (w, (c, d))
same_pairs e f g = cc

pub returns : goal.returns
returns g c =
    let lefts = g.L.Machine.meaning in
    let rights = g.R.Machine.meaning in
    let x = c.args.left in
    let y = c.args.right in
    let b = c.open-bench.result in
    let here = c.advance.new.self in
    let there = c.advance-2.new.self in
    let opened : Opened lefts rights x y b = record { machines = c.open-bench.ensures.machines_taken_in; truth = c.open-bench.ensures.tells_the_truth; stays = c.open-bench.ensures.stays_unlike } in
    let first = one_grant lefts rights c.args.grant b _ x y here opened c.advance.ensures.answers_and_works in
    let come = twice lefts rights x y b here there c.args.grant LIMIT _ _ _ _ opened c.advance.ensures.answers_and_works c.advance-2.ensures.answers_and_works c.tally-tally_then.ensures.answers_and_stays in
    let second = reached lefts rights x y b here there c.args.grant LIMIT _ _ _ _ opened c.advance.ensures.answers_and_works c.advance-2.ensures.answers_and_works c.tally-tally_then.ensures.answers_and_stays
    (0 + c.args.grant + LIMIT) _ there come in
    let shut : here.state.verdict ≢ Open = λ e. let told = c.verdict-verdict.ensures.answered in let closed = c.if-is_open.false in let is = c.is_open.ensures.just_for_open.1 (cc (told, e)) in cc (closed, is) in
    let e = nothing_changes lefts rights x y c.args.grant (0 + c.args.grant + LIMIT) here there first second shut (omega arith) in
    let verdict = one_verdict lefts rights here there e _ _ c.verdict-verdict.ensures c.verdict-verdict_then.ensures in
    let tally = one_tally lefts rights here there e _ _ _ _ c.tally-tally.ensures.answers_and_stays c.tally-tally_then.ensures.answers_and_stays in
    record { stay_as_they_were = same_pairs verdict tally.0 tally.1; none_only_below_2048 = λ e. cc e }

pub returns-then-is_open-clause-none_only_below_2048 : goal.returns-then-is_open-clause-none_only_below_2048
returns-then-is_open-clause-none_only_below_2048 g c = λ none.
    let lefts = g.L.Machine.meaning in
    let rights = g.R.Machine.meaning in
    let x = c.args.left in
    let y = c.args.right in
    let here = c.advance.new.self in
    let so = one_grant lefts rights c.args.grant c.open-bench.result _ x y here
    record { machines = c.open-bench.ensures.machines_taken_in; truth = c.open-bench.ensures.tells_the_truth; stays = c.open-bench.ensures.stays_unlike } c.advance.ensures.answers_and_works in
    elim (cases_lt c.args.grant 2048) [
      | inl low ↦ low
      | inr enough ↦ absurd (has_fallen lefts rights x y c.args.grant here _ so (omega (arith, enough)) c.verdict-verdict.ensures (c.is_open.ensures.just_for_open.0 c.if-is_open.true))
    ]
