use Rattle.std.proofs.Common.{◌≡◌, inl, Err, rules}
use Rattle.sheet.proofs.Whole.{rightly, accepted_when_written, refused_by_its_fault}
use Rattle.sheet.proofs.sheets.Sheet.read.Goals as goal

pub returns-in_err-reader-clause-holds_what_is_written : goal.returns-in_err-reader-clause-holds_what_is_written
returns-in_err-reader-clause-holds_what_is_written c =
    let e : c.from_residual.result ≡ Err c.in_err-reader.field-0.0 = Prim.search rules in
    rw e (inl c.in_err-reader.ensures)

pub returns-in_err-reader-clause-accepted_when_written : goal.returns-in_err-reader-clause-accepted_when_written
returns-in_err-reader-clause-accepted_when_written c =
    let e : c.from_residual.result ≡ Err c.in_err-reader.field-0.0 = Prim.search rules in
    rw e (accepted_when_written (Err c.in_err-reader.field-0.0) c.args.sheet.now (inl c.in_err-reader.ensures))

pub returns-clause-holds_what_is_written : goal.returns-clause-holds_what_is_written
returns-clause-holds_what_is_written c = rightly c.whole.result c.in_ok-reader.reader c.args.sheet.now c.in_ok-reader.ensures.0 c.whole.ensures

pub returns-clause-accepted_when_written : goal.returns-clause-accepted_when_written
returns-clause-accepted_when_written c = accepted_when_written c.whole.result _ (rightly c.whole.result c.in_ok-reader.reader c.args.sheet.now c.in_ok-reader.ensures.0 c.whole.ensures)

pub returns-clause-refused_by_its_fault : goal.returns-clause-refused_by_its_fault
returns-clause-refused_by_its_fault c = refused_by_its_fault c.whole.result _ (rightly c.whole.result c.in_ok-reader.reader c.args.sheet.now c.in_ok-reader.ensures.0 c.whole.ensures)
