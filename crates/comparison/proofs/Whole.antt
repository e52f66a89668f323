-- As much of a sheet as is read tells what is to be printed for the whole.
-- Assumes nothing.
use Rattle.std.proofs.Common.{◌≡◌, ℕ, suc, ◌<◌, inl, inr, IfSome, Some, None, Option, length, take, ap, length-take-le, take_all, arith}
use Rattle.std.proofs.lemmas.Bool.{cases_lt}
use Rattle.std.specs.Io.KnownBytes.{Appends}
use Rattle.sheet.specs.Sheet.{most_bytes}
use Rattle.sheet.specs.Text.{Text}
use Rattle.sheet.proofs.Short.{short}
use Rattle.comparison.specs.Printing.{PrintedFor, of_fault, of_books}
use Rattle.comparison.specs.Answering.{Answers}

-- One byte more than a sheet may have.
abbrev pub enough : ℕ
enough = suc most_bytes

-- Where more stands there, what was read is too long already, and so is all of it.
too_long : (sheet text : Text) → enough < length sheet → PrintedFor (take enough sheet) text → PrintedFor sheet text
too_long sheet text more (of_fault f (inl (long, refusal, line)) e) = of_fault f (inl (omega arith, refusal, line)) e
too_long sheet text more (of_fault f (inr (fits, fault)) e) = absurd (omega (arith, length-take-le enough sheet (omega arith)))
too_long sheet text more (of_books s says f found t tally e) = absurd (omega (arith, length-take-le enough sheet (omega arith), short s says.0, ap length says.1))

-- What is to be printed for as much as is read is to be printed for the whole.
whole : (sheet text : Text) → PrintedFor (take enough sheet) text → PrintedFor sheet text
whole sheet text printed = elim (cases_lt enough (length sheet)) [ inl more ↦ too_long sheet text more printed | inr all ↦ rw (take_all enough sheet all) at printed ]

-- So the sheet that is there is answered.
pub answered : (there before after : Option Text) (read text : Text) → IfSome there (λ sheet. read ≡ take enough sheet) → PrintedFor read text → Appends before after text → Answers there before after
answered None before after read text front printed appends = tt
answered (Some sheet) before after read text front printed appends = (text, whole sheet text (rw front at printed), appends)
