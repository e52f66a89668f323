-- How the program fails.
-- Assumes nothing.
use Rattle.std.specs.Prelude.{ℕ, List, Option, Some}
use Rattle.anyhow.specs.Error.{HasMessage}
use Rattle.anyhow.specs.declared.error.Error.{Error}
use Rattle.comparison.specs.declared.answering.AnswerError.{AnswerError}
use Rattle.comparison.specs.Answering.{NotAnswered, answer_words}

-- It fails as it tells: the error's message says whether reading failed or writing did, in full or cut to end in dots; and what was
-- read and written by then is as that failure leaves it.
abbrev pub FailsAsTold : (sheet left before after : Option (List ℕ)) → Error → Type 0
FailsAsTold sheet left before after e = (why : AnswerError) × HasMessage (Some (answer_words why)) e × NotAnswered sheet left before after why
