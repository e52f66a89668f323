use Rattle.sheet.proofs.NameLine.{name_taken}
use Rattle.sheet.proofs.name_lines.name.Goals as goal

pub returns-in-None : goal.returns-in-None
returns-in-None c = name_taken c.args.line c.args.names.now c.push.new.self c.in_ok-name.name (rw c.in_ok-name.ensures.ok_part at c.only_name.ensures)
    (rw c.text.ensures at c.in-None.ensures) c.push.ensures
