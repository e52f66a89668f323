-- What comes of the sheet that there is to read.
-- Assumes nothing.
use Rattle.std.specs.Prelude.{◌≡◌, ℕ, ◌≤◌, Option, IfSome, suc, length, take, codes}
use Rattle.std.specs.Io.KnownBytes.{Appends, Consumes, Keeps}
use Rattle.std.specs.declared.io.Error.{Error}
use Rattle.sheet.specs.Text.{Text}
use Rattle.sheet.specs.Sheet.{most_bytes}
use Rattle.comparison.specs.declared.answering.AnswerError.{AnswerError}
use Rattle.comparison.specs.declared.answering.AnswerError.TheVariants.{Reading, Writing}
use Rattle.comparison.specs.Printing.{PrintedFor}

-- Where it is known which bytes are there to be read: the first of them, as many as a buffer has room for, stand at its front.
abbrev pub StandsInFront : (there : Option Text) (room count : ℕ) (buffer : Text) → Type 0
StandsInFront there room count buffer = IfSome there (λ all. take count buffer ≡ take room all)

-- What was read of them so far, at most as much as there is room for, stands there.
abbrev pub TakenSoFar : (there left : Option Text) (room : ℕ) (buffer : Text) → Type 0
TakenSoFar there left room buffer = (n : ℕ) × (n ≤ room) × Consumes there left (take n buffer)

-- Where it is known which bytes are there to be read: what is to be printed for them is written behind what was written before, and
-- nothing else. Of standard input and output nothing is known.
abbrev pub Answers : (sheet before after : Option Text) → Type 0
Answers sheet before after = IfSome sheet (λ bytes. (text : Text) × PrintedFor bytes text × Appends before after text)

-- No more of it is read than it takes to know that a sheet is too long.
abbrev pub ReadsEnough : (sheet left : Option Text) → Type 0
ReadsEnough sheet left = IfSome sheet (λ bytes. Consumes sheet left (take (suc most_bytes) bytes))

-- At most so many bytes of it are read.
abbrev pub ReadsAtMost : ℕ → (sheet left : Option Text) → Type 0
ReadsAtMost most sheet left = (read : Text) × (length read ≤ most) × Consumes sheet left read

-- What is so where a sheet is not answered. Where reading failed, nothing is written; and where writing did, as much is read as where
-- it succeeds.
abbrev pub NotAnswered : (sheet left before after : Option Text) → AnswerError → Type 0
NotAnswered sheet left before after (Reading cause) = ReadsAtMost (suc most_bytes) sheet left × Keeps before after
NotAnswered sheet left before after (Writing cause) = ReadsEnough sheet left

-- Why it failed, and the words that say which of the two did.
abbrev pub cause_of : AnswerError → Error
cause_of (Reading cause) = cause
cause_of (Writing cause) = cause

abbrev pub answer_words : AnswerError → Text
answer_words (Reading cause) = codes "the sheet cannot be read"
answer_words (Writing cause) = codes "the outcome cannot be printed"
