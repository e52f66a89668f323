use Rattle.std.proofs.Common.{Ok}
use Rattle.book.specs.Book.{book_content}
use Rattle.book.specs.Reading.{Read, Weighed}
use Rattle.clients.proofs.Books.{relevance_by_readings, differs}
use Rattle.clients.proofs.drafts.relevance_is_told_by_readings.Goals as goal

pub returns-in-Ok-Ok-Ok : goal.returns-in-Ok-Ok-Ok
returns-in-Ok-Ok-Ok c =
    let weighed : Weighed (Ok c.in-Ok-Ok-Ok.relevant) (book_content c.seal-book.result) c.args.position c.args.i c.args.cue = rw c.in-Ok-Ok-Ok.is-0 at c.relevance.ensures.weighed_at_its_state in
    let now : Read (Ok c.in-Ok-Ok-Ok.now) (book_content c.seal-book.result) c.args.position c.args.i = rw c.in-Ok-Ok-Ok.is-1 at c.reading-now.ensures.read_at_its_state in
    let then : Read (Ok c.in-Ok-Ok-Ok.then) (book_content c.seal-book.result) c.next.result c.args.i = rw c.in-Ok-Ok-Ok.is-2 at c.reading-then.ensures.read_at_its_state in
    differs c.in-Ok-Ok-Ok.relevant c.are_same.result
    (relevance_by_readings c.seal-book.result c.args.position c.next.result c.args.i c.args.cue c.in-Ok-Ok-Ok.relevant c.are_same.result c.in-Ok-Ok-Ok.now c.in-Ok-Ok-Ok.then
    c.one_reading.ensures c.seal-book.ensures.moves_part_by_part c.next.ensures weighed now then c.are_same.ensures)
