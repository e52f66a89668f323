use Rattle.std.proofs.Common.{◌≡◌, IsOk, rules, ◌∙◌, sym}
use Rattle.clients.specs.Sheets.{one_cue_text}
use Rattle.clients.proofs.SheetLemmas.{one_cue, one_cue_written, one_cue_formed, is_read}
use Rattle.clients.proofs.sheets.one_cue_is_read.Goals as goal

pub returns : goal.returns
returns c = λ form.
    let laid : c.as_bytes.result.now ≡ one_cue_text c.args.name.now = c.as_bytes.ensures.value ∙ c.in_ok-text.ensures.ok in
    let read : IsOk c.read.result =
    is_read _ (one_cue c.args.name.now) ((c.read.ensures.accepted_when_written (one_cue c.args.name.now)).1 (one_cue_formed c.args.name.now form, one_cue_written c.args.name.now ∙ sym laid)) in
    Prim.search rules
