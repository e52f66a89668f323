use Rattle.book.proofs.Positions.{one_position}
use Rattle.book.proofs.theorems.positions_apart_just_by_rules.Goals as goal

pub returns : goal.returns
returns c b = one_position b.cues b.held
