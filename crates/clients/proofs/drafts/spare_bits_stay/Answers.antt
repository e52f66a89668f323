use Rattle.std.proofs.Common.{◌≡◌, ◌≤◌, length, arith}
use Rattle.book.specs.Book.{book_content, part}
use Rattle.clients.proofs.Books.{top_bits}
use Rattle.clients.proofs.drafts.spare_bits_stay.Goals as goal

pub returns-else-rules-ge16 : goal.returns-else-rules-ge16
returns-else-rules-ge16 c =
    let few : length (book_content c.seal-book.result).rules ≤ 15 = omega (arith, c.rules.ensures, c.if-rules-ge16.false) in
    let same : part c.next.result 15 ≡ part c.args.position 15 = rw c.next.ensures (c.seal-book.ensures.moves_part_by_part.keeps c.args.position c.args.cue 15 few) in
    top_bits c.next.result c.args.position c.next.type_inv c.ranges.position.fits same
