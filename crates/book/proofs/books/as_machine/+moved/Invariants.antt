use Rattle.std.proofs.Common.{length}
use Rattle.book.proofs.books.as_machine.+moved.Given as goal

-- There is a rule fewer each time.
abbrev pub decreases-moved : goal.decreases-moved
decreases-moved l = length l.rules.now
