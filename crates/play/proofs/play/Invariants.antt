use Rattle.play.specs.Playing.{OnlyCued}
use Rattle.play.proofs.play.Given as goal

abbrev pub invariant-loop-line : goal.invariant-loop-line
invariant-loop-line g l =
    (goal.iterator-loop-line g).can_next l.line-iterator
    × (goal.iterator-loop-line g).is_finite l.line-iterator
    × OnlyCued l.initial.watch l.watch
