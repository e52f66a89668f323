use Rattle.std.proofs.Common.{◌++◌, length, take}
use Rattle.std.specs.Fmt.{HasWritten, IsPlainFormatter}
use Rattle.std.specs.List.{flat_map}
use Rattle.std.specs.Prelude.{decimal}
use Rattle.sheet.specs.Names.{names_of}
use Rattle.comparison.specs.Printing.{spaced_name}
use Rattle.comparison.proofs.printing.ShowLineDisplay.fmt.Given as goal

-- The length is written, and the names of the cues so far.
abbrev pub invariant-loop-cue : goal.invariant-loop-cue
invariant-loop-cue g l =
    IsPlainFormatter l.fn.f
    → HasWritten g.W.Write.write_str_gives l.fn.f (decimal (length l.cue-items) ++ flat_map (spaced_name (names_of l.self.report.now.names)) (take l.cue-index l.cue-items)) l.f
