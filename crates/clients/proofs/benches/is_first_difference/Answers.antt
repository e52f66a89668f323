use Rattle.std.proofs.Common.{◌≡◌, length, take, refl, ap, ◌∙◌, inl, le_refl}
use Rattle.std.proofs.lemmas.Bool.Decides.{Decides-eqb}
use Rattle.std.proofs.lemmas.Slice.Eq.{slice_eq-Decides}
use Rattle.bench.specs.declared.cells.TheConstants.{LIMIT}
use Rattle.clients.proofs.Told.{asking, one, concluded}
use Rattle.clients.proofs.Steady.{one_grant}
use Rattle.clients.proofs.Compared.{differ_first}
use Rattle.clients.proofs.Differences.{found_first, finds}
use Rattle.clients.proofs.benches.is_first_difference.Goals as goal

pub returns-in-Ok : goal.returns-in-Ok
returns-in-Ok g c =
    let lefts = g.L.Machine.meaning in
    let rights = g.R.Machine.meaning in
    let so = one_grant lefts rights LIMIT c.open-bench.result _ c.args.left c.args.right c.advance.new.self
    record { machines = c.open-bench.ensures.machines_taken_in; truth = c.open-bench.ensures.tells_the_truth; stays = c.open-bench.ensures.stays_unlike } c.advance.ensures.answers_and_works in
    let done = concluded lefts rights c.args.left c.args.right LIMIT c.advance.new.self so (inl (le_refl LIMIT)) _ (asking lefts rights c.advance.new.self) _ _ _ c.show.ensures in
    let (same, first) = found_first _ _ _ _ _ _ done refl c.in-Ok.length c.in-Ok.is in
    let alike = slice_eq-Decides Decides-eqb (take c.in-Ok.length c.show.new.buffer) c.args.expected.now c.eq.result c.eq.ensures in
    record {
      yes_only_of_the_first = λ yes'. rw (alike.0 yes') at (differ_first _ _ _ _ first);
      yes_where_a_bench_finds_it = λ found.
          let (long, front) = finds _ _ _ _ _ _ done refl (one lefts rights c.args.left c.args.right LIMIT c.advance.new.self so same) c.args.expected.now found in
          let e : c.in-Ok.length ≡ length c.args.expected.now = cc (long, c.in-Ok.is) in
          alike.1 (ap (λ n. take n c.show.new.buffer) e ∙ front);
    }

pub returns-clause-yes_where_a_bench_finds_it : goal.returns-clause-yes_where_a_bench_finds_it
returns-clause-yes_where_a_bench_finds_it g c = λ found.
    let lefts = g.L.Machine.meaning in
    let rights = g.R.Machine.meaning in
    let so = one_grant lefts rights LIMIT c.open-bench.result _ c.args.left c.args.right c.advance.new.self
    record { machines = c.open-bench.ensures.machines_taken_in; truth = c.open-bench.ensures.tells_the_truth; stays = c.open-bench.ensures.stays_unlike } c.advance.ensures.answers_and_works in
    let done = concluded lefts rights c.args.left c.args.right LIMIT c.advance.new.self so (inl (le_refl LIMIT)) _ (asking lefts rights c.advance.new.self) _ _ _ c.show.ensures in
    let (long, front) = finds _ _ _ _ _ _ done refl (one lefts rights c.args.left c.args.right LIMIT c.advance.new.self so found.0) c.args.expected.now found in
    absurd (cc (long, c.in-Err.is))
