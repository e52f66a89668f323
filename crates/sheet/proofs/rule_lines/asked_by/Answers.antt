use Rattle.std.proofs.Common.{◌≡◌, Err, rules}
use Rattle.sheet.specs.declared.faults.ReaderRefusal.TheVariants.{NoSuchName}
use Rattle.sheet.specs.Lines.{rest_of, fields_in}
use Rattle.sheet.specs.Names.{names_of}
use Rattle.sheet.proofs.RuleLine.{unknown_name}
use Rattle.sheet.proofs.rule_lines.asked_by.Goals as goal

pub returns-in_err-a : goal.returns-in_err-a
returns-in_err-a c =
    let e : c.from_residual-in_err-a.result ≡ Err NoSuchName = Prim.search rules in
    rw e (λ rs. unknown_name (names_of c.args.names.now) rs (fields_in c.args.line) c.in_ok-template.template (rest_of c.template.new.line) c.in_ok-first.first c.in_ok-first.second
    (Prim.search rules) (Prim.search rules) (Prim.search rules))
