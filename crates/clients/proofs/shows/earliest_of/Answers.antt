use Rattle.clients.proofs.InOrder.{behind_no_earlier}
use Rattle.clients.proofs.shows.earliest_of.Goals as goal

pub returns-clause-first_is_no_earlier : goal.returns-clause-first_is_no_earlier
returns-clause-first_is_no_earlier c =
    behind_no_earlier c.shows_stand_in_one_order.ensures _ _ _ c.earlier_of.ensures.first_is_no_earlier c.earlier_of-2.ensures.first_is_no_earlier

pub returns-clause-second_is_no_earlier : goal.returns-clause-second_is_no_earlier
returns-clause-second_is_no_earlier c =
    behind_no_earlier c.shows_stand_in_one_order.ensures _ _ _ c.earlier_of.ensures.second_is_no_earlier c.earlier_of-2.ensures.first_is_no_earlier
