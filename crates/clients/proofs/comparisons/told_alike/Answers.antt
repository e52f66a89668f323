use Rattle.std.proofs.Common.{◌≡◌, refl, rules}
use Rattle.comparison.specs.Printing.{outcome_text}
use Rattle.clients.proofs.comparisons.told_alike.Goals as goal

pub returns : goal.returns
returns c =
    let same : outcome_text c.compared-outcome.result ≡ outcome_text c.compared-other.result =
    (c.compared-other.ensures.just_this_printed _).0 ((c.compared-outcome.ensures.just_this_printed _).1 refl) in
    Prim.search rules
