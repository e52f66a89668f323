use Rattle.clients.proofs.Books.{only_room}
use Rattle.clients.proofs.drafts.add_first_cue.Goals as goal

pub returns-clause-only_room_can_be_wanting : goal.returns-clause-only_room_can_be_wanting
returns-clause-only_room_can_be_wanting c = only_room c.add.result c.args.draft.now c.add.new.self (rw c.number.ensures at c.add.ensures)
