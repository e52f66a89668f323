use Rattle.clients.proofs.Patient.{Turned}
use Rattle.clients.proofs.benches.patient.Given as goal

-- The bench was handled by turns, and the next turn begins.
abbrev pub invariant-loop : goal.invariant-loop
invariant-loop g l = Turned g.L.Machine.meaning g.R.Machine.meaning l.initial.bench l.counter l.bench
