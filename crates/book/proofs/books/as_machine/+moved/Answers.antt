use Rattle.std.proofs.Common.{ℕ, ◌-◌, ◌%◌, ◌^◌, ◌<◌, length, take, drop, arith, ◌∙◌}
use Rattle.std.proofs.lemmas.List.{length-take, length-drop}
use Rattle.book.specs.Law.{step_below, moved_below}
use Rattle.book.proofs.books.as_machine.+moved.Goals as goal

-- The rules behind the first, 15 at most, lead to a position of 15 digits at most; and the first to a digit.
above_few : (t : ℕ) (c : goal.After-moved t) → c.moved.result < 16 ^ 15
above_few t c =
    let rest = take (length c.args.rules.now - 1) (drop 1 c.args.rules.now) in
    rw c.moved.ensures (moved_below rest 15 _ _ (omega (arith, length-take (length c.args.rules.now - 1) (drop 1 c.args.rules.now), length-drop 1 c.args.rules.now, c.requires)) (omega (arith, c.ranges.position)))

digit : (t : ℕ) (c : goal.After-moved t) → c.from.result < 16
digit t c = rw (c.from.ensures ∙ c.step-state.ensures) (step_below c.rule-item.result (c.args.position % 16) c.letter.result (omega arith))

pub overflow_mul-result : goal.overflow_mul-result
overflow_mul-result t c = omega (arith, above_few t c)

pub overflow_add-result : goal.overflow_add-result
overflow_add-result t c = omega (arith, above_few t c, digit t c)
