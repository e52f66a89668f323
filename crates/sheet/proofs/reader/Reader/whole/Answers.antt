use Rattle.std.proofs.Common.{◌≡◌, Err, rules}
use Rattle.sheet.proofs.Whole.{names_fault_is, left_fault_is, right_fault_is, end_fault_is, all_read}
use Rattle.sheet.proofs.reader.Reader.whole.Goals as goal

pub returns-in_err-names : goal.returns-in_err-names
returns-in_err-names c =
    let e : c.from_residual.result ≡ Err c.in_err-names.field-0.0 = Prim.search rules in
    rw e (names_fault_is c.args.self _ c.requires.at_start c.in_err-names.ensures)

pub returns-in_err-left : goal.returns-in_err-left
returns-in_err-left c =
    let e : c.from_residual-in_err-left.result ≡ Err c.in_err-left.field-0.0 = Prim.search rules in
    rw e (left_fault_is c.args.self c.names.new.self c.in_ok-names.names c.requires.at_start c.in_ok-names.ensures _ c.in_err-left.ensures)

pub returns-in_err-right : goal.returns-in_err-right
returns-in_err-right c =
    let e : c.from_residual-in_err-right.result ≡ Err c.in_err-right.field-0.0 = Prim.search rules in
    rw e (right_fault_is c.args.self c.names.new.self c.book.new.self c.in_ok-names.names c.in_ok-left.left c.requires.at_start c.in_ok-names.ensures c.in_ok-left.ensures _ c.in_err-right.ensures)

pub returns-in_err-end : goal.returns-in_err-end
returns-in_err-end c =
    let e : c.from_residual-in_err-end.result ≡ Err c.in_err-end.field-0.0 = Prim.search rules in
    rw e (end_fault_is c.args.self c.names.new.self c.book.new.self c.in_ok-names.names c.in_ok-left.left c.requires.at_start c.in_ok-names.ensures c.in_ok-left.ensures
    c.book-2.new.self c.in_ok-right.right c.in_ok-right.ensures _ c.in_err-end.ensures)

pub returns : goal.returns
returns c = all_read c.args.self c.names.new.self c.book.new.self c.in_ok-names.names c.in_ok-left.left c.requires.at_start c.in_ok-names.ensures c.in_ok-left.ensures
    c.book-2.new.self c.in_ok-right.right c.in_ok-right.ensures (Prim.search rules)
