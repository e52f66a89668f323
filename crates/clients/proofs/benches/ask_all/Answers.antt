use Rattle.std.proofs.Common.{◌≡◌, arith}
use Rattle.search.specs.declared.states.Verdict.TheVariants.{Unlike}
use Rattle.search.specs.Search.{after}
use Rattle.search.specs.Calls.{AskVerdict, Told}
use Rattle.bench.specs.declared.cells.TheConstants.{LIMIT}
use Rattle.clients.specs.Comparing.{SameCues, NotSameCues}
use Rattle.clients.proofs.Told.{truly, unlike}
use Rattle.clients.proofs.Steady.{one_grant}
use Rattle.clients.proofs.Replies.{is_same, is_too_large, names_side}
use Rattle.clients.proofs.benches.ask_all.Goals as goal

pub returns : goal.returns
returns g c =
    let lefts = g.L.Machine.meaning in
    let rights = g.R.Machine.meaning in
    let x = c.args.left in
    let y = c.args.right in
    let here = c.advance.new.self in
    let v = c.verdict-verdict.result in
    let so = one_grant lefts rights LIMIT c.open-bench.result _ x y here
    record { machines = c.open-bench.ensures.machines_taken_in; truth = c.open-bench.ensures.tells_the_truth; stays = c.open-bench.ensures.stays_unlike } c.advance.ensures.answers_and_works in
    let left = g.met.L.Machine.lawful x in
    let right = g.met.R.Machine.lawful y in
    let told : SameCues (lefts x).steps (rights y).steps → (after (lefts x) (rights y) LIMIT LIMIT).verdict ≡ v =
    λ same. let (answer, when) = truly lefts rights x y LIMIT here so same AskVerdict (Told v) here c.verdict-verdict.ensures in cc answer in
    let none : NotSameCues (lefts x).steps (rights y).steps → v ≡ Unlike =
    λ differ. let answer = unlike lefts rights x y LIMIT here so differ AskVerdict (Told v) here c.verdict-verdict.ensures in cc answer in
    record {
      equal_just_when_same = λ same. is_same (lefts x) (rights y) left right same v (told same) c.is_equal.result c.is_equal.ensures.just_when_none_divides;
      full_just_when_too_large = λ same. is_too_large (lefts x) (rights y) left right same v (told same) c.is_full.result c.is_full.ensures.just_when_too_many;
      side_allows_a_show_first = λ same. names_side (lefts x) (rights y) left right same v (told same) c.side.result c.side.ensures.side_allows_first_difference;
      unlike_just_when_counts_differ = (
        λ yes' same. (c.is_unlike.ensures.just_when_counts_differ (lefts x) (rights y) LIMIT (omega arith) LIMIT (told same)).0 yes' same,
        λ differ. c.is_unlike.ensures.just_for_unlike.1 (none differ),
      );
    }
