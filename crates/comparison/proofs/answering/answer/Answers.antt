use Rattle.std.proofs.Common.{rules, refl, suc}
use Rattle.std.specs.Io.KnownBytes.{Appends}
use Rattle.sheet.specs.Sheet.{most_bytes}
use Rattle.comparison.specs.Answering.{StandsInFront}
use Rattle.comparison.specs.Printing.{outcome_text}
use Rattle.comparison.proofs.Whole.{answered}
use Rattle.comparison.proofs.answering.answer.Goals as goal

pub returns-clause-writes_the_answer : goal.returns-clause-writes_the_answer
returns-clause-writes_the_answer g c =
    let read : StandsInFront (g.R.Read.remaining c.args.reader.now) (suc most_bytes) c.in_ok-count.count c.fill.new.buffer = Prim.search rules in
    let written : Appends (g.W.Write.contents c.args.writer.now) (g.W.Write.contents c.write.new.self) (outcome_text c.compared-outcome.result) = Prim.search rules in
    answered _ _ _ _ _ read ((c.compared-outcome.ensures.just_this_printed _).1 refl) written
