use Rattle.book.proofs.Parts.{moves_by_parts, allows_what_holds}
use Rattle.book.proofs.Positions.{one_position}
use Rattle.book.proofs.drafts.Draft.seal.Goals as goal

pub returns-clause-moves_part_by_part : goal.returns-clause-moves_part_by_part
returns-clause-moves_part_by_part c = moves_by_parts _ _

pub returns-clause-allows_just_what_holds : goal.returns-clause-allows_just_what_holds
returns-clause-allows_just_what_holds c = allows_what_holds _ _

pub returns-clause-apart_just_by_rules : goal.returns-clause-apart_just_by_rules
returns-clause-apart_just_by_rules c = one_position _ _
