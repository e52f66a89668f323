use Rattle.std.proofs.Common.{arith}
use Rattle.std.proofs.lemmas.Option.{slice_get_within}
use Rattle.sheet.specs.Names.{names_of, Named}
use Rattle.sheet.proofs.Places.{below_next}
use Rattle.sheet.proofs.names.Names.cue.Goals as goal

pub loop-cue-preserved : goal.loop-cue-preserved
loop-cue-preserved c = below_next (Named (names_of c.args.self.now) c.args.name.now) _ c.loop-cue.invariant (λ named. let no_more = c.if-is_named.ensures.1 named in absurd cc)

pub returns : goal.returns
returns c = λ cue named. c.loop-cue.invariant cue (omega (arith, slice_get_within (names_of c.args.self.now) cue named.0 named.1, c.loop-cue-test.false, c.count-cue-end.ensures)) named
