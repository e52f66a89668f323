use Rattle.std.proofs.Common.{refl, ap, inl, le_refl, rules}
use Rattle.search.specs.Calls.{Tally, Tallied}
use Rattle.bench.specs.declared.cells.TheConstants.{LIMIT}
use Rattle.clients.proofs.Told.{asking, truly, state_same, one, concluded}
use Rattle.clients.proofs.Steady.{one_grant}
use Rattle.clients.proofs.Compared.{differ_first}
use Rattle.clients.proofs.Differences.{found_first, none_to_find, one_to_find, last_told}
use Rattle.clients.proofs.benches.place_of_difference.Goals as goal

pub returns-in-Ok : goal.returns-in-Ok
returns-in-Ok g c =
    let lefts = g.L.Machine.meaning in
    let rights = g.R.Machine.meaning in
    let here = c.advance.new.self in
    let so = one_grant lefts rights LIMIT c.open-bench.result _ c.args.left c.args.right here
    record { machines = c.open-bench.ensures.machines_taken_in; truth = c.open-bench.ensures.tells_the_truth; stays = c.open-bench.ensures.stays_unlike } c.advance.ensures.answers_and_works in
    let done = concluded lefts rights c.args.left c.args.right LIMIT here so (inl (le_refl LIMIT)) _ (asking lefts rights here) _ _ _ c.show.ensures in
    let (same, first) = found_first _ _ _ _ _ _ done (Prim.search rules) c.in-Ok.length c.in-Ok.is in
    let (counts, rank) = truly lefts rights c.args.left c.args.right LIMIT here so same Tally (Tallied c.tally-recorded.result.0 c.tally-recorded.result.1) here c.tally-recorded.ensures.answers_and_stays in
    let state = state_same lefts rights c.args.left c.args.right LIMIT here so same in
    let told = last_told (lefts c.args.left) (rights c.args.right) LIMIT c.tally-recorded.result.1 here.state.verdict _
    (one lefts rights c.args.left c.args.right LIMIT here so same) first (ap (λ st. st.verdict) state) (cc counts) rank in
    record {
      first_difference_was_met_last = (differ_first _ _ _ _ first, told);
      none_just_where_none_is_to_find = (λ e. cc e, λ none. absurd (one_to_find _ _ _ _ _ _ done (Prim.search rules) c.in-Ok.length c.in-Ok.is none));
    }

pub returns-clause-none_just_where_none_is_to_find : goal.returns-clause-none_just_where_none_is_to_find
returns-clause-none_just_where_none_is_to_find g c =
    let lefts = g.L.Machine.meaning in
    let rights = g.R.Machine.meaning in
    let here = c.advance.new.self in
    let so = one_grant lefts rights LIMIT c.open-bench.result _ c.args.left c.args.right here
    record { machines = c.open-bench.ensures.machines_taken_in; truth = c.open-bench.ensures.tells_the_truth; stays = c.open-bench.ensures.stays_unlike } c.advance.ensures.answers_and_works in
    let done = concluded lefts rights c.args.left c.args.right LIMIT here so (inl (le_refl LIMIT)) _ (asking lefts rights here) _ _ _ c.show.ensures in
    (λ e. none_to_find _ _ _ _ _ _ done (Prim.search rules) _ c.in-Err.is, λ none. refl)
