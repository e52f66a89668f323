use Rattle.std.proofs.Common.{◌≡◌, true, take, drop}
use Rattle.machine.specs.Watch.{standing, after_cues}
use Rattle.clients.specs.Watches.{AllTaken}
use Rattle.clients.proofs.watches.hears.Given as goal

-- The watch stands where the calls so far lead it; if all calls are taken, so were those, and the others will be.
abbrev pub invariant-loop-call : goal.invariant-loop-call
invariant-loop-call g l = record {
  stands : standing l.watch ≡ after_cues g.M.Machine.meaning (standing l.initial.watch) (take l.call-index l.calls);
  taken : AllTaken g.M.Machine.meaning (standing l.initial.watch) l.calls → (l.is_taken ≡ true) × AllTaken g.M.Machine.meaning (standing l.watch) (drop l.call-index l.calls);
}
