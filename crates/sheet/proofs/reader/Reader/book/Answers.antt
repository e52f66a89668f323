use Rattle.std.proofs.Common.{◌≡◌, Err, arith, rules}
use Rattle.sheet.specs.Names.{names_of}
use Rattle.sheet.proofs.Sections.{rules_next, rules_fault}
use Rattle.sheet.proofs.reader.Reader.book.Goals as goal

pub loop-self-preserved : goal.loop-self-preserved
loop-self-preserved c =
    let (fs, takes, past) = c.in_ok-rule.ensures in
    rules_next c.args.word.now (names_of c.args.names.now) c.in_ok-count.count c.args.self.now c.loop-self.self c.rule.new.self c.loop-self.draft c.rule.new.draft fs c.loop-self.invariant
    (omega (arith, c.rules.ensures, c.loop-self-test.true)) takes past

pub returns-in_err-rule : goal.returns-in_err-rule
returns-in_err-rule c =
    let e : c.from_residual-in_err-rule.result ≡ Err c.in_err-rule.field-0.0 = Prim.search rules in
    rw e (rules_fault c.args.word.now (names_of c.args.names.now) c.in_ok-count.count c.args.self.now c.loop-self.self c.loop-self.draft c.in_err-rule.field-0.0 c.loop-self.invariant
    (omega (arith, c.rules.ensures, c.loop-self-test.true)) c.in_err-rule.ensures)
