use Rattle.std.proofs.Common.{rules, ◌-◌, length, arith}
use Rattle.comparison.proofs.Buffered.{more_read, none_read}
use Rattle.comparison.proofs.answering.fill.Goals as goal
use Rattle.comparison.proofs.answering.fill.Goals.{in-Ok, in-Err}

pub loop-preserved : goal.loop-preserved
loop-preserved g c =
    let (here, long, so_far) = c.loop.invariant in
    let room = length c.loop.buffer - c.loop.filled in
    elim c.match-read.branch [
      | in-Ok w ↦ (Prim.search rules, Prim.search rules, rw w.filled-is (more_read _ _ _ c.loop.filled room c.loop.buffer c.read.new.buf here so_far w.in-Ok.count w.in-Ok.ensures.bound.0 w.in-Ok.ensures.bytes.0))
      | in-Err w ↦ (Prim.search rules, Prim.search rules, rw w.filled-is (none_read _ _ _ c.loop.filled room c.loop.buffer c.read.new.buf here so_far w.in-Err.ensures.bytes))
    ]

pub returns-in-Err-2-clause-failed_after_some : goal.returns-in-Err-2-clause-failed_after_some
returns-in-Err-2-clause-failed_after_some g c =
    let (here, long, so_far) = c.loop.invariant in
    let room = length c.loop.buffer - c.loop.filled in
    (c.loop.filled, omega (arith, here, long), none_read _ _ _ c.loop.filled room c.loop.buffer c.read.new.buf here so_far c.in-Err-2.ensures.bytes)
