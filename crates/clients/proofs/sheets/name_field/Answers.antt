use Rattle.clients.proofs.SheetLemmas.{field_there, field_if_named}
use Rattle.clients.proofs.sheets.name_field.Goals as goal

pub returns-in-Ok-clause-stands_at_its_byte : goal.returns-in-Ok-clause-stands_at_its_byte
returns-in-Ok-clause-stands_at_its_byte c = field_there _ _ _ _ c.in-Ok.ensures.holds_what_is_written c.field.ensures

pub returns-in-Ok-clause-there_is_one_for_each_cue : goal.returns-in-Ok-clause-there_is_one_for_each_cue
returns-in-Ok-clause-there_is_one_for_each_cue c = field_if_named _ _ _ _ c.in-Ok.ensures.holds_what_is_written c.in-Ok.ensures.accepted_when_written c.field.ensures
