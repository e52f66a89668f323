use Rattle.std.proofs.Common.{◌≡◌, true, false, inl, refl}
use Rattle.sheet.specs.declared.faults.Refusal.TheVariants.{Reader}
use Rattle.sheet.specs.declared.faults.ReaderRefusal.TheVariants.{TooLong}
use Rattle.clients.proofs.sheets.is_told_too_long.Goals as goal

pub returns-in-Ok : goal.returns-in-Ok
returns-in-Ok c = (λ no. absurd (let e : false ≡ true = no in cc), λ long. absurd ((c.in-Ok.ensures.refused_by_its_fault (record { refusal = Reader TooLong; line = 0 })).1 (inl (long, refl, refl))))
