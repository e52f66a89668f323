use Rattle.std.proofs.Common.{◌≡◌, ◌↔◌, IsTrue, sym, rules}
use Rattle.comparison.specs.Printing.{outcome_text}
use Rattle.clients.proofs.comparisons.is_printed_for.Goals as goal

pub returns : goal.returns
returns c =
    let told : IsTrue c.eq.result ↔ (outcome_text c.compared-outcome.result ≡ c.args.text.now) = Prim.search rules in
    let printed = c.compared-outcome.ensures.just_this_printed c.args.text.now in
    (λ yes. printed.1 (sym (told.0 yes)), λ p. told.1 (sym (printed.0 p)))
