use Rattle.std.proofs.Common.{length}
use Rattle.book.proofs.books.as_machine.+all_close.Given as goal

-- There is a rule fewer each time.
abbrev pub decreases-all_close : goal.decreases-all_close
decreases-all_close l = length l.rules.now
