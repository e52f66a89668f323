use Rattle.std.proofs.Common.{◌++◌, Ok, Err, rules}
use Rattle.machine.specs.Show.{Show, Cued}
use Rattle.rules.specs.Rule.{HoldsOf}
use Rattle.clients.proofs.Books.{read_here, broken_if_told, none_if_missing}
use Rattle.clients.proofs.drafts.stays_broken.Goals as goal

pub returns-in-Ok : goal.returns-in-Ok
returns-in-Ok c =
    λ cued. broken_if_told c.args.book.now c.args.show.now c.args.i c.in-Ok.value c.in-Ok.field-0-1 c.eq.result
    (read_here (Ok (c.in-Ok.value, c.in-Ok.field-0-1)) c.args.book.now c.args.show.now c.args.i c.leads_to.result c.in-Ok.ensures.told_of_any_show_behind cued c.leads_to.ensures) (search rules)

pub returns-in-Err : goal.returns-in-Err
returns-in-Err c =
    λ cued. none_if_missing c.args.book.now c.args.show.now c.args.i c.in-Err.field-0 (λ r. (v : Show) → Cued c.args.book.now.cues v → HoldsOf r (c.args.show.now ++ v) → ⊥)
    (read_here (Err c.in-Err.field-0) c.args.book.now c.args.show.now c.args.i c.leads_to.result c.in-Err.ensures.told_of_any_show_behind cued c.leads_to.ensures)
