-- A reader that reads a whole sheet, from its start.
-- Assumes nothing.
use Rattle.std.specs.Prelude.{◌≡◌, ◌<◌, length, Result, MatchResult}
use Rattle.sheet.specs.declared.faults.Fault.{Fault}
use Rattle.sheet.specs.declared.reader.Reader.{Reader}
use Rattle.sheet.specs.declared.sheets.Sheet.{Sheet}
use Rattle.sheet.specs.declared.faults.Refusal.TheVariants as refusal
use Rattle.sheet.specs.declared.faults.ReaderRefusal.TheVariants.{TooLong}
use Rattle.sheet.specs.Fault.{FaultInLine}
use Rattle.sheet.specs.Sheet.{most_bytes}
use Rattle.sheet.specs.Text.{Text}
use Rattle.sheet.specs.Reading.{HoldsWritten}

-- A reader stands before all lines.
pub record AtStart (r : Reader) : Type 0 where
  pub at : r.at ≡ 0
  pub line : r.line ≡ 1

-- Beginning to read: before all lines of the sheet, unless it is too long.
abbrev pub Begun : Result Reader Fault → Text → Type 0
Begun answer sheet = MatchResult answer (λ r. (r.sheet.now ≡ sheet) × AtStart r)
    (λ f. (most_bytes < length sheet) × (f.refusal ≡ refusal.Reader TooLong) × (f.line ≡ 0))

-- Reading a whole sheet, from its start: what it says, and that it is written so; or a fault in one of its lines.
abbrev pub ReadWhole : Result Sheet Fault → Text → Type 0
ReadWhole answer sheet = MatchResult answer (λ r. HoldsWritten r sheet) (λ f. FaultInLine sheet f)
