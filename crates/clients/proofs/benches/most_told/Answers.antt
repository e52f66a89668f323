use Rattle.std.proofs.Common.{◌≡◌, ℕ, max, refl, arith}
use Rattle.clients.proofs.Blank.{no_round, nothing, one_round}
use Rattle.clients.proofs.benches.most_told.Goals as goal

-- The largest of zeros is 0.
no_more : (m w a r x y z : ℕ) → m ≡ 0 → w ≡ 0 → a ≡ 0 → r ≡ 0 → x ≡ max w a → y ≡ max x r → z ≡ max y m → z ≡ 0
no_more m w a r x y z e f g h i j k = omega arith

pub loop-init : goal.loop-init
loop-init g c = λ differ. (refl, no_round g.L.Machine.meaning g.R.Machine.meaning c.open-bench.result c.args.grant c.args.buffer.now)

pub loop-preserved : goal.loop-preserved
loop-preserved g c = λ differ.
    let (most, so) = c.loop.invariant differ in
    let stays = c.open-bench.ensures.stays_unlike differ in
    let none = nothing g.L.Machine.meaning g.R.Machine.meaning c.open-bench.result c.args.grant c.args.buffer.now stays _ _ _ _ c.loop.buffer c.show.new.buffer c.loop.bench c.advance-worked.new.self so
    c.advance-worked.ensures.answers_and_works c.tally-counted.ensures.answers_and_stays c.show.ensures in
    let round = one_round g.L.Machine.meaning g.R.Machine.meaning c.open-bench.result c.args.grant c.args.buffer.now stays _ _ _ _ c.loop.buffer c.show.new.buffer c.loop.bench c.advance-worked.new.self so
    c.advance-worked.ensures.answers_and_works c.tally-counted.ensures.answers_and_stays c.show.ensures in
    (no_more _ _ _ _ _ _ _ most none.worked none.counted none.recorded c.max.ensures c.max-in-loop.ensures c.max-most.ensures, round)

pub returns : goal.returns
returns g c = record { zero_where_counts_differ = λ differ. (c.loop.invariant differ).0; buffer_stays_where_counts_differ = λ differ. (c.loop.invariant differ).1.same }
