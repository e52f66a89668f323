use Rattle.std.proofs.Common.{◌-◌, length}
use Rattle.book.specs.Draft.{draft_content}
use Rattle.sheet.specs.Names.{names_of}
use Rattle.sheet.specs.Reader.{RulesSoFar}
use Rattle.sheet.proofs.reader.Reader.book.Given as goal

abbrev pub invariant-loop-self : goal.invariant-loop-self
invariant-loop-self l = RulesSoFar l.word (names_of l.names) l.count l.fn.self l.self l.draft

abbrev pub decreases-loop-self : goal.decreases-loop-self
decreases-loop-self l = l.count - length (draft_content l.draft).rules
