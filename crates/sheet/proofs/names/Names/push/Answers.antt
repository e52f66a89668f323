use Rattle.std.proofs.Common.{arith, refl}
use Rattle.std.proofs.lemmas.Grind.{take-set_at}
use Rattle.sheet.proofs.Places.{fields_long}
use Rattle.sheet.proofs.names.Names.push.Goals as goal

pub returns : goal.returns
returns c = rw c.from.ensures (take-set_at c.args.self.now.fields c.args.self.now.count _ c.args.name refl (omega (arith, c.requires.has_room, fields_long c.args.self.now, c.args.self.now.places)))
