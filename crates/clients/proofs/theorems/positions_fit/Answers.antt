use Rattle.clients.proofs.Below.{led_below}
use Rattle.clients.proofs.theorems.positions_fit.Goals as goal

pub returns : goal.returns
returns g c = λ x s.
    let law = g.met.M.Machine.lawful x in
    led_below _ law _ s law.begins
