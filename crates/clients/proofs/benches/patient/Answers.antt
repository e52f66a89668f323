use Rattle.std.proofs.Common.{arith, rules}
use Rattle.search.specs.Calls.{Advance}
use Rattle.clients.proofs.Handling.{replying, begins}
use Rattle.clients.proofs.Told.{Reached, concluded, not_open, equal_says, full_says, unlike_says, side_says, writes_front}
use Rattle.clients.proofs.Patient.{by_turns, one_turn, Ended, ended_in_time, ended_early}
use Rattle.clients.proofs.benches.patient.Goals.{else-loop-test, then-loop-test+then-not-is_open}
use Rattle.clients.proofs.benches.patient.Goals as goal

pub loop-init : goal.loop-init
loop-init g c = begins g.L.Machine.meaning g.R.Machine.meaning (Advance 64) by_turns c.open-bench.result

pub loop-preserved : goal.loop-preserved
loop-preserved g c = one_turn g.L.Machine.meaning g.R.Machine.meaning c.open-bench.result c.loop.counter _ _ c.loop.bench c.advance.new.self c.loop.invariant c.advance.ensures.answers_and_works c.verdict.ensures

pub returns : goal.returns
returns g c =
    let lefts = g.L.Machine.meaning in
    let rights = g.R.Machine.meaning in
    let ended : Ended lefts rights c.open-bench.result c.loop-test.bench = elim c.loop-test.branch [
      | else-loop-test w ↦ ended_in_time lefts rights c.open-bench.result c.loop.counter c.loop.bench c.loop-test.bench (omega arith) w.bench-is c.loop.invariant
      | then-loop-test+then-not-is_open w ↦ ended_early lefts rights c.open-bench.result c.loop.counter _ _ c.loop.bench w.advance.new.self c.loop-test.bench w.bench-is
          c.loop.invariant w.advance.ensures.answers_and_works w.verdict.ensures (λ e. let shut = w.if-not-is_open.true in cc (shut, w.is_open.ensures.just_for_open.1 e))
    ] in
    let so : Reached lefts rights c.args.left c.args.right ended.grants c.loop-test.bench = record {
      bench = c.open-bench.result;
      opened = record { machines = c.open-bench.ensures.machines_taken_in; truth = c.open-bench.ensures.tells_the_truth; stays = c.open-bench.ensures.stays_unlike };
      pick = replying (Advance 64) by_turns;
      answers = ended.come.answers;
      run = ended.come.run;
    } in
    let done = concluded lefts rights c.args.left c.args.right ended.grants c.loop-test.bench so ended.fallen _ c.verdict-verdict.ensures _ _ _ c.show.ensures
    in
    let length = c.unwrap_or-length.ensures in
    record {
      verdict_has_fallen = not_open _ _ _ _ _ _ done;
      equal_just_when_same = equal_says _ _ _ _ _ _ done;
      full_just_when_too_large = full_says _ _ _ _ _ _ done;
      unlike_just_when_counts_differ = unlike_says _ _ _ _ _ _ done;
      side_allows_the_show_first = rw length (side_says _ _ _ _ _ _ done (Prim.search rules));
      later_bytes_stay = rw length (writes_front _ _ _ _ _ _ done (Prim.search rules));
    }
