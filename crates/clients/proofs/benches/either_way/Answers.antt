use Rattle.std.proofs.Common.{◌≡◌, ℕ, ◌*◌, List, Result, ◌∙◌, arith}
use Rattle.search.specs.declared.states.Verdict.{Verdict}
use Rattle.search.specs.declared.states.ShowRefusal.{ShowRefusal}
use Rattle.clients.specs.declared.benches.Findings.{Findings}
use Rattle.clients.proofs.Told.{kept}
use Rattle.clients.proofs.Steady.{at_first, once_more, steady, one_grant}
use Rattle.clients.proofs.Again.{opened_over, one_state, one_verdict, one_tally, one_show}
use Rattle.clients.proofs.benches.either_way.Goals as goal

-- What is found is the same when each part is.
same_findings : {v w : Verdict} {a b c d : ℕ} {t u : Result ℕ ShowRefusal} {now' then' : List ℕ} → v ≡ w → a ≡ c → b ≡ d → t ≡ u → now' ≡ then'
    → ◌≡◌ {A = Findings} record { verdict = v; tally = (a, b); length = t; show = now' } record { verdict = w; tally = (c, d); length = u; show = then' }
same_findings e f g h i = cc

pub loop-init : goal.loop-init
loop-init g c = at_first g.L.Machine.meaning g.R.Machine.meaning 1 c.open-singly.result

pub loop-preserved : goal.loop-preserved
loop-preserved g c = once_more g.L.Machine.meaning g.R.Machine.meaning 1 c.open-singly.result c.loop.counter _ c.loop.singly _ c.loop.invariant c.advance-in-loop.ensures.answers_and_works

pub returns : goal.returns
returns g c =
    let lefts = g.L.Machine.meaning in
    let rights = g.R.Machine.meaning in
    let x = c.args.left in
    let y = c.args.right in
    let first = one_grant lefts rights c.args.grant c.open-at_once.result _ x y c.advance.new.self
    record { machines = c.open-at_once.ensures.machines_taken_in; truth = c.open-at_once.ensures.tells_the_truth; stays = c.open-at_once.ensures.stays_unlike } c.advance.ensures.answers_and_works in
    let same = kept lefts rights x y c.args.grant c.advance.new.self first in
    let opened = opened_over lefts rights x _ y _ c.open-singly.result (c.release-left.ensures.0 ∙ same.0) (c.release-left.ensures.1 ∙ same.1)
    c.open-singly.ensures.machines_taken_in c.open-singly.ensures.tells_the_truth c.open-singly.ensures.stays_unlike in
    let again = steady lefts rights 1 c.open-singly.result c.loop.counter x y c.loop.singly opened c.loop.invariant in
    let e = one_state lefts rights x y c.args.grant (c.loop.counter * 1) c.advance.new.self c.loop.singly (omega arith) first again in
    let verdict = one_verdict lefts rights c.advance.new.self c.loop.singly e _ _ c.verdict.ensures c.verdict-2.ensures in
    let tally = one_tally lefts rights c.advance.new.self c.loop.singly e _ _ _ _ c.tally.ensures.answers_and_stays c.tally-2.ensures.answers_and_stays in
    let show = one_show lefts rights c.advance.new.self c.loop.singly e _ _ _ _ _ c.show-length.ensures c.show-length-2.ensures in
    same_findings verdict tally.0 tally.1 show.0 show.1
