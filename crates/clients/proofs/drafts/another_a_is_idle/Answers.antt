use Rattle.std.proofs.Common.{◌≡◌, false, Ok, refl, rules}
use Rattle.rules.specs.Rule.{terms}
use Rattle.book.specs.Book.{book_content}
use Rattle.clients.proofs.Books.{weighed_here, idle}
use Rattle.clients.proofs.drafts.another_a_is_idle.Goals as goal

pub returns-in-Ok : goal.returns-in-Ok
returns-in-Ok c = λ cued.
    let out : c.in-Ok.relevant ≡ false = idle (book_content c.args.book.now) c.args.show.now c.args.i c.a.result (terms c.in-Some.rule) c.in-Ok.relevant c.second_a_not_relevant.ensures
    (search rules) (search rules) (search rules)
    c.a.ensures (weighed_here (Ok c.in-Ok.relevant) c.args.book.now c.args.show.now c.args.i c.leads_to.result c.a.result c.in-Ok.ensures.told_of_any_show_behind cued c.leads_to.ensures) in
    rw out refl
