use Rattle.clients.proofs.Steady.{Steadily}
use Rattle.clients.proofs.benches.given_back.Given as goal

-- So many times the same was granted.
abbrev pub invariant-loop : goal.invariant-loop
invariant-loop g l = Steadily g.M.Machine.meaning g.M.Machine.meaning l.grant l.initial.bench l.counter l.bench
