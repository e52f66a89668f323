use Rattle.std.proofs.Common.{◌≡◌, Err, arith, rules}
use Rattle.sheet.proofs.Sections.{names_next, names_fault}
use Rattle.sheet.proofs.reader.Reader.names.Goals as goal

pub loop-self-preserved : goal.loop-self-preserved
loop-self-preserved c =
    let (fs, takes, past) = c.in_ok-name.ensures in
    names_next c.in_ok-count.count _ c.loop-self.self c.name.new.self c.loop-self.names c.name.new.names fs c.loop-self.invariant (omega (arith, c.count.ensures, c.loop-self-test.true)) takes past

pub returns-in_err-name : goal.returns-in_err-name
returns-in_err-name c =
    let e : c.from_residual-in_err-name.result ≡ Err c.in_err-name.field-0.0 = Prim.search rules in
    rw e (names_fault c.in_ok-count.count _ c.loop-self.self c.loop-self.names c.in_err-name.field-0.0 c.loop-self.invariant (omega (arith, c.count.ensures, c.loop-self-test.true)) c.in_err-name.ensures)
