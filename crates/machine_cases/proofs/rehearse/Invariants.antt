use Rattle.std.proofs.Common.{◌≡◌, take}
use Rattle.machine.specs.Table.{table_meaning}
use Rattle.machine.specs.Watch.{standing, after_cues}
use Rattle.machine_cases.proofs.rehearse.Given as goal

-- The watch stands where the calls made so far lead it from the beginning.
abbrev pub invariant-loop-cue : goal.invariant-loop-cue
invariant-loop-cue l = standing l.watch ≡ after_cues table_meaning (standing l.initial.watch) (take l.cue-index l.calls)
