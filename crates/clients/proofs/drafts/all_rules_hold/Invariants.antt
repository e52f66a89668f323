use Rattle.std.proofs.Common.{ℕ, ◌<◌}
use Rattle.rules.specs.Rule.{Terms, HoldsOf}
use Rattle.book.specs.Book.{book_content}
use Rattle.book.specs.Content.{RuleAt}
use Rattle.clients.proofs.drafts.all_rules_hold.Given as goal

-- The rules asked so far hold of the show.
abbrev pub invariant-loop-i : goal.invariant-loop-i
invariant-loop-i l = (k : ℕ) (r : Terms) → k < l.i → RuleAt (book_content l.fn.book) k r → HoldsOf r l.show
