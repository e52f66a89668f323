use Rattle.play.proofs.OnlyCued.{one_line}
use Rattle.play.proofs.play.Goals as goal

pub returns-in_err-println-in-Some-call : goal.returns-in_err-println-in-Some-call
returns-in_err-println-in-Some-call g c = one_line c.args.watch.now c.loop-line.watch c.call.new.watch c.call.result _ c.loop-line.invariant.2 c.call.ensures

pub returns-in_err-println-in-None-call : goal.returns-in_err-println-in-None-call
returns-in_err-println-in-None-call g c = one_line c.args.watch.now c.loop-line.watch c.call.new.watch c.call.result _ c.loop-line.invariant.2 c.call.ensures

pub loop-line-preserved : goal.loop-line-preserved
loop-line-preserved g c = (tt, tt, one_line c.args.watch.now c.loop-line.watch c.call.new.watch c.call.result _ c.loop-line.invariant.2 c.call.ensures)
