-- One line more: a call of cue, or none.
-- Assumes nothing.
use Rattle.std.proofs.Common.{◌≡◌, ℕ, List, [], ◌∷◌, ◌++◌, Option, Some, None, sym, ap, ◌∙◌}
use Rattle.std.proofs.lemmas.List.Sums.{fold_push}
use Rattle.machine.specs.declared.tables.Table.{Table}
use Rattle.machine.specs.declared.watches.Watch.{Watch}
use Rattle.machine.specs.Table.{table_meaning}
use Rattle.machine.specs.Watch.{standing, after_cue}
use Rattle.play.specs.declared.Answered.{Answered}
use Rattle.play.specs.Playing.{OnlyCued, CalledIfNumeral}

pub cued_more : (before between after : Watch Table) (c : ℕ) → OnlyCued before between → standing after ≡ after_cue table_meaning (standing between) c → OnlyCued before after
cued_more before between after c (calls, so) e =
    (calls ++ c ∷ [], e ∙ ap (λ w. after_cue table_meaning w c) so ∙ sym (fold_push (after_cue table_meaning) (standing before) calls c))

-- What was done behind the calls so far is one call more, or none.
pub one_line : (before between after : Watch Table) (r : Option Answered) (line : List ℕ) → OnlyCued before between → CalledIfNumeral r between after line → OnlyCued before after
one_line before between after None line (calls, so) passed = (calls, passed.1 ∙ so)
one_line before between after (Some a) line sofar called = cued_more before between after a.cue sofar called.moved
