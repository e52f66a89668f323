use Rattle.std.proofs.Common.{◌≡◌, refl, Some, arith, rules, position, eqb}
use Rattle.sheet.proofs.Cut.{cut_at}
use Rattle.sheet.proofs.stretches.Stretch.cut.Goals as goal

pub returns : goal.returns
returns c =
    let found : position (λ b. eqb b c.args.byte) c.args.self.now.text.now ≡ Some c.in_ok-end.end = Prim.search rules in
    let cut = cut_at _ _ _ found in
    (cut.1, cut.2, refl, refl, refl, omega (arith, cut.0))
