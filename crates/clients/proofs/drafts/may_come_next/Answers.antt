use Rattle.std.proofs.Common.{Ok, Err}
use Rattle.machine.specs.Table.{bit}
use Rattle.clients.specs.Books.{NotBroken}
use Rattle.clients.proofs.Books.{read_here, next_if_told, none_if_missing}
use Rattle.clients.proofs.drafts.may_come_next.Goals as goal

pub returns-then-cue-lt32 : goal.returns-then-cue-lt32
returns-then-cue-lt32 c =
    λ cued. next_if_told c.args.book.now c.args.show.now c.args.i c.in-Ok.field-0-0 c.in-Ok.permitted c.args.cue (bit c.in-Ok.permitted c.args.cue)
    (read_here (Ok (c.in-Ok.field-0-0, c.in-Ok.permitted)) c.args.book.now c.args.show.now c.args.i c.leads_to.result c.in-Ok.ensures.told_of_any_show_behind cued c.leads_to.ensures) (λ h. h, λ h. h)

pub returns-in-Err : goal.returns-in-Err
returns-in-Err c =
    λ cued. none_if_missing c.args.book.now c.args.show.now c.args.i c.in-Err.field-0 (λ r. NotBroken r c.args.book.now c.args.show.now c.args.cue)
    (read_here (Err c.in-Err.field-0) c.args.book.now c.args.show.now c.args.i c.leads_to.result c.in-Err.ensures.told_of_any_show_behind cued c.leads_to.ensures)
