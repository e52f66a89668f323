use Rattle.std.proofs.Common.{◌≡◌, Err, refl, rules}
use Rattle.book.specs.Draft.{draft_content}
use Rattle.sheet.specs.declared.faults.Refusal.TheVariants.{Reader}
use Rattle.sheet.specs.Lines.{fields_in}
use Rattle.sheet.specs.Names.{names_of}
use Rattle.sheet.specs.RuleLines.{AsksFor}
use Rattle.sheet.proofs.RuleLine.{added}
use Rattle.sheet.proofs.rule_lines.rule.Goals as goal

pub returns-in_err-template : goal.returns-in_err-template
returns-in_err-template c =
    let e : c.from_residual.result ≡ Err (Reader c.in_err-template.field-0.0) = Prim.search rules in
    rw e (c.in_err-template.ensures (draft_content c.args.draft.now).rules, refl)

pub returns : goal.returns
returns c =
    let asked = c.in_ok-template.field-0 in
    let asks : AsksFor (names_of c.args.names.now) (fields_in c.args.line) asked.template asked.a asked.b asked.n = Prim.search rules in
    added _ _ asked.template asked.a asked.b asked.n (draft_content c.args.draft.now) (draft_content c.add.new.self) asks c.requires.same_cues (rw c.number.ensures at c.in_ok-add.ensures)
