use Rattle.book.proofs.Parts.{allows_what_holds}
use Rattle.book.proofs.theorems.books_allow_just_what_holds.Goals as goal

pub returns : goal.returns
returns c b = allows_what_holds b.cues b.held
