use Rattle.std.proofs.Common.{◌≡◌, ◌<◌, true, length, sym, ◌∙◌, arith, rules, tests}
use Rattle.std.specs.Char.{is_ascii_digit}
use Rattle.std.specs.List.{list_all}
use Rattle.std.specs.Str.Parse.{digits_value}
use Rattle.std.proofs.lemmas.Bool.{eqb-false}
use Rattle.std.proofs.lemmas.Iterator.{YieldsList-from_slice}
use Rattle.std.proofs.lemmas.Iterator.Search.{all_from_yields_List}
use Rattle.std.proofs.lemmas.Str.Parse.{IsNumeralModel, numerals_by_value}
use Rattle.play.proofs.is_numeral.Goals as goal

-- The test of the code says which lines are digits alone.
all_digits : IsNumeralModel (λ bs. list_all is_ascii_digit bs ≡ true) (digits_value 10)
all_digits = numerals_by_value _ (search rules)

pub returns-then-not-is_empty : goal.returns-then-not-is_empty
returns-then-not-is_empty c =
    let bs = c.args.line.now in
    let some : 0 < length bs = omega (arith, eqb-false (length bs) 0 (sym c.is_empty.ensures ∙ c.if-not-is_empty.true)) in
    let all = all_from_yields_List is_ascii_digit _ _ c.all.result c.all.ensures.ran (YieldsList-from_slice bs cc) (λ x b q k. search (rules, tests)) in
    (λ e. (some, all_digits.to bs (sym all ∙ e)), λ numeral. all ∙ all_digits.from bs numeral.1)
