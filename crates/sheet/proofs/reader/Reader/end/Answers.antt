use Rattle.std.proofs.Common.{refl, arith, ap, length}
use Rattle.std.proofs.lemmas.List.{length-drop}
use Rattle.sheet.specs.Reader.{rest_for}
use Rattle.sheet.proofs.reader.Reader.end.Goals as goal

pub returns-then-self : goal.returns-then-self
returns-then-self c =
    let r = c.args.self.now in
    record { rest = rest_for r; stands = refl; line = omega arith; fails = (refl, λ none. absurd (omega (arith, ap length none, length-drop r.at r.sheet.now, c.if-self.true))) }
