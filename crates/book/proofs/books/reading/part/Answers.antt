use Rattle.std.proofs.Common.{ap, ◌/◌, ◌%◌}
use Rattle.book.proofs.Parts.{sixteen}
use Rattle.book.proofs.books.reading.part.Goals as goal

pub returns : goal.returns
returns c = ap (λ k. c.args.position / k % 16) (sixteen c.args.i)
