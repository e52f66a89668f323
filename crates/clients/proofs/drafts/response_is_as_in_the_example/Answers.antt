use Rattle.std.proofs.Common.{rules}
use Rattle.rules.specs.Rule.{terms}
use Rattle.clients.proofs.Books.{first_example, by_false}
use Rattle.clients.proofs.drafts.response_is_as_in_the_example.Goals as goal

pub returns-then-holds : goal.returns-then-holds
returns-then-holds c =
    let told = first_example (terms c.in-Ok.rule) (search rules) c.example_cases.ensures in
    by_false c.holds-then-holds.result (λ h. told.1 (c.holds-then-holds.ensures.yes_if_held.0 h))

pub returns-else-holds : goal.returns-else-holds
returns-else-holds c =
    let told = first_example (terms c.in-Ok.rule) (search rules) c.example_cases.ensures in
    c.holds.ensures.yes_if_held.1 told.0
