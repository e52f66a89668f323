use Rattle.std.proofs.Common.{refl}
use Rattle.comparison.proofs.Machines.{length_fits, decisive, found}
use Rattle.comparison.proofs.books.books_compared.Goals as goal

pub new-requires : goal.new-requires
new-requires c = decisive _ _ _ (c.decide_watched-verdict.ensures.decided_where_alike c.requires).verdict

pub new-show-requires : goal.new-show-requires
new-show-requires c = rw c.unwrap_or.ensures (length_fits _ _ c.decide_watched-verdict.ensures.show_fits)

pub returns-clause-finds_what_is_so : goal.returns-clause-finds_what_is_so
returns-clause-finds_what_is_so c =
    let d = c.decide_watched-verdict.ensures.decided_where_alike c.requires in
    found _ _ c.decide_watched-verdict.result.length _ c.decide_watched-verdict.new.buffer refl c.decide_watched-verdict.result.verdict c.new.result d.verdict d.show c.new.ensures.has_this_verdict
    (rw (← c.unwrap_or.ensures, ← c.new-show.ensures) c.new.ensures.has_this_show)

pub returns-clause-tally_is_theirs : goal.returns-clause-tally_is_theirs
returns-clause-tally_is_theirs c = rw c.new.ensures.has_this_verdict (c.decide_watched-verdict.ensures.decided_where_alike c.requires).tally
