use Rattle.std.proofs.Common.{rules}
use Rattle.sheet.specs.Names.{names_of}
use Rattle.sheet.proofs.RuleLine.{second_named}
use Rattle.sheet.proofs.rule_lines.cues.Goals as goal

pub returns-in_err-a : goal.returns-in_err-a
returns-in_err-a c = rw c.from_residual.ensures (λ a b named other. c.in_err-a.ensures a (rw c.text.ensures named))

pub returns-in_err-cue-in-Some-Name : goal.returns-in_err-cue-in-Some-Name
returns-in_err-cue-in-Some-Name c = rw c.from_residual-in_err-cue-in-Some-Name.ensures (λ a b named other. c.in_err-cue-in-Some-Name.ensures b (second_named (names_of c.args.names.now) c.args.second c.in-Some-Name.text b (Prim.search rules) other))
