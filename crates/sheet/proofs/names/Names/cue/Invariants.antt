use Rattle.std.proofs.Common.{ℕ, ◌<◌}
use Rattle.sheet.specs.Names.{names_of, Named}
use Rattle.sheet.proofs.names.Names.cue.Given as goal

abbrev pub invariant-loop-cue : goal.invariant-loop-cue
invariant-loop-cue l = (c : ℕ) → c < l.cue → Named (names_of l.self) l.name c → ⊥
