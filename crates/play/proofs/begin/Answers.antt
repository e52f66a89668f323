use Rattle.std.proofs.Common.{◌≡◌, ap, rules}
use Rattle.machine.specs.declared.tables.Table.{Table}
use Rattle.machine.specs.declared.watches.Watch.{Watch}
use Rattle.machine.specs.Table.{Means, table_meaning}
use Rattle.examples.specs.Example.{load_first}
use Rattle.examples.proofs.LoadFirst.{load_first_lem}
use Rattle.play.specs.Playing.{FliesAfterLoad}
use Rattle.play.proofs.begin.Goals as goal

-- A watch at the start of the example means the example.
flies_at_start : (w : Watch Table) → w.position ≡ 0 → Means (table_meaning w.machine) load_first → FliesAfterLoad w
flies_at_start w at means s cued = rw at (load_first_lem (table_meaning w.machine) means s cued)

pub returns-clause-flies_only_after_load : goal.returns-clause-flies_only_after_load
returns-clause-flies_only_after_load c =
    let w = c.begin.result.0 in
    let means : Means (table_meaning w.machine) load_first = search rules in
    flies_at_start w (ap (λ v. v.position) c.begin.ensures.at_the_start) means
