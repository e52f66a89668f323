use Rattle.std.proofs.Common.{◌+◌, ◌∙◌, inl, inr, le_refl, sym, arith}
use Rattle.std.proofs.lemmas.Bool.{cases_eq}
use Rattle.search.specs.Calls.{Advance}
use Rattle.bench.specs.declared.cells.TheConstants.{LIMIT}
use Rattle.clients.proofs.Handling.{begins, goes_on}
use Rattle.clients.proofs.Told.{kept, one, verdict_true, verdict_unlike}
use Rattle.clients.proofs.Steady.{one_grant}
use Rattle.clients.proofs.Again.{opened_over, reached_by}
use Rattle.clients.proofs.benches.decided_again.Goals as goal

pub returns : goal.returns
returns g c =
    let lefts = g.L.Machine.meaning in
    let rights = g.R.Machine.meaning in
    let x = c.args.left in
    let y = c.args.right in
    let more = c.args.more in
    let b = c.open-second.result in
    let here = c.advance.new.self in
    let there = c.advance-3.new.self in
    let first = one_grant lefts rights LIMIT c.open-first.result _ x y here
    record { machines = c.open-first.ensures.machines_taken_in; truth = c.open-first.ensures.tells_the_truth; stays = c.open-first.ensures.stays_unlike } c.advance.ensures.answers_and_works in
    let same = kept lefts rights x y LIMIT here first in
    let opened = opened_over lefts rights x _ y _ b (c.release-left.ensures.0 ∙ same.0) (c.release-left.ensures.1 ∙ same.1)
    c.open-second.ensures.machines_taken_in c.open-second.ensures.tells_the_truth c.open-second.ensures.stays_unlike in
    let begun = goes_on lefts rights (Advance more) (λ a. Advance LIMIT) b 0 (Advance more) _ b c.advance-2.new.self
    (begins lefts rights (Advance more) (λ a. Advance LIMIT) b) c.advance-2.ensures.answers_and_works in
    let ended = goes_on lefts rights (Advance more) (λ a. Advance LIMIT) b (0 + more) (Advance LIMIT) _ c.advance-2.new.self there begun c.advance-3.ensures.answers_and_works in
    let second = reached_by lefts rights (Advance more) (λ a. Advance LIMIT) x y b there (0 + more + LIMIT) _ opened ended in
    elim (cases_eq (lefts x).steps.cues (rights y).steps.cues) [
      | inl equally ↦ (one lefts rights x y LIMIT here first equally).verdict _ _
          (verdict_true lefts rights x y LIMIT here first (inl (le_refl LIMIT)) _ c.verdict-verdict.ensures equally)
          (verdict_true lefts rights x y (0 + more + LIMIT) there second (inl (omega arith)) _ c.verdict.ensures equally)
      | inr differ ↦ verdict_unlike lefts rights x y LIMIT here first (inl (le_refl LIMIT)) _ c.verdict-verdict.ensures differ
          ∙ sym (verdict_unlike lefts rights x y (0 + more + LIMIT) there second (inl (omega arith)) _ c.verdict.ensures differ)
    ]
