use Rattle.clients.proofs.Steady.{Steadily}
use Rattle.clients.proofs.benches.either_way.Given as goal

-- So many single units were granted.
abbrev pub invariant-loop : goal.invariant-loop
invariant-loop g l = Steadily g.L.Machine.meaning g.R.Machine.meaning 1 l.initial.singly l.counter l.singly
