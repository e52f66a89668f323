use Rattle.std.proofs.Common.{◌∙◌, sym}
use Rattle.clients.proofs.SheetLemmas.{one_cue, one_cue_written, one_cue_formed, is_read, is_one_cue, laid_out_so}
use Rattle.clients.proofs.sheets.read_as_laid_out.Goals as goal

pub returns-clause-one_cue_is_accepted : goal.returns-clause-one_cue_is_accepted
returns-clause-one_cue_is_accepted c = λ x (form, laid).
    is_read _ (one_cue x) ((c.read.ensures.accepted_when_written (one_cue x)).1 (one_cue_formed x form, one_cue_written x ∙ sym laid))

pub returns-clause-one_cue_is_read : goal.returns-clause-one_cue_is_read
returns-clause-one_cue_is_read c = λ x (form, laid).
    is_one_cue _ x ((c.read.ensures.accepted_when_written (one_cue x)).1 (one_cue_formed x form, one_cue_written x ∙ sym laid))

pub returns-clause-was_laid_out_so : goal.returns-clause-was_laid_out_so
returns-clause-was_laid_out_so c = laid_out_so _ _ c.read.ensures.holds_what_is_written c.read.ensures.accepted_when_written
