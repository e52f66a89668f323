use Rattle.std.proofs.Common.{◌-◌, length}
use Rattle.sheet.specs.Names.{names_of}
use Rattle.sheet.specs.Reader.{NamesSoFar}
use Rattle.sheet.proofs.reader.Reader.names.Given as goal

abbrev pub invariant-loop-self : goal.invariant-loop-self
invariant-loop-self l = NamesSoFar l.count l.fn.self l.self l.names

abbrev pub decreases-loop-self : goal.decreases-loop-self
decreases-loop-self l = l.count - length (names_of l.names)
