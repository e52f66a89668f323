use Rattle.std.proofs.Common.{◌≡◌, Some, inl, inr, ap}
use Rattle.sheet.specs.Reading.{OnlyTheseOfADraft}
use Rattle.clients.proofs.sheets.number_by_a_draft.Goals as goal

pub returns-in-Draft-clause-ten_or_eleven : goal.returns-in-Draft-clause-ten_or_eleven
unfolding OnlyTheseOfADraft
returns-in-Draft-clause-ten_or_eleven c = elim (c.only_two_of_a_draft.ensures _ c.in-Err.fault c.in-Draft.refusal c.in-Err.ensures.holds_what_is_written c.in-Draft.is) [
  | inl count ↦ inl (rw count at c.number.ensures)
  | inr same ↦ inr (rw same at c.number.ensures)
]

pub returns-in-Draft-clause-told_if_a_draft_refuses : goal.returns-in-Draft-clause-told_if_a_draft_refuses
returns-in-Draft-clause-told_if_a_draft_refuses c = λ e (f, has, by_draft).
    let one : c.in-Err.fault ≡ f = (c.in-Err.ensures.refused_by_its_fault f).1 has in
    let is : c.in-Draft.refusal ≡ e = cc (one, by_draft, c.in-Draft.is) in
    ap Some (rw is at c.number.ensures)

pub returns-in-Reader-clause-told_if_a_draft_refuses : goal.returns-in-Reader-clause-told_if_a_draft_refuses
returns-in-Reader-clause-told_if_a_draft_refuses c = λ e (f, has, by_draft).
    let one : c.in-Err.fault ≡ f = (c.in-Err.ensures.refused_by_its_fault f).1 has in
    cc (one, by_draft, c.in-Reader.is)

pub returns-in-Ok-clause-told_if_a_draft_refuses : goal.returns-in-Ok-clause-told_if_a_draft_refuses
returns-in-Ok-clause-told_if_a_draft_refuses c = λ e (f, has, by_draft). absurd ((c.in-Ok.ensures.refused_by_its_fault f).1 has)
