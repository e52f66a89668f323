use Rattle.std.proofs.Common.{rules}
use Rattle.sheet.proofs.name_lines.only_name.Goals as goal

pub returns-in-None : goal.returns-in-None
returns-in-None c =
    let stands = c.in_ok-field.ensures.1 in
    (c.in_ok-field.field-0, Prim.search rules, record { form = Prim.search rules; reads = Prim.search rules; stands = (c.in_ok-line.line, Prim.search rules, stands) })
