use Rattle.std.proofs.Common.{◌≡◌}
use Rattle.clients.specs.Comparing.{SameCues}
use Rattle.clients.proofs.Blank.{Rounds}
use Rattle.clients.proofs.benches.most_told.Given as goal

-- Where the cue counts differ, nothing was ever worked or recorded.
abbrev pub invariant-loop : goal.invariant-loop
invariant-loop g l =
    let lefts = g.L.Machine.meaning in
    let rights = g.R.Machine.meaning in
    (SameCues (lefts l.fn.left).steps (rights l.fn.right).steps → ⊥) → (l.most ≡ 0) × Rounds lefts rights l.initial.bench l.grant l.fn.buffer l.buffer l.bench
