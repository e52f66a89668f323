-- Example cases of rules over three cues, A 0, B 1 and C 2.
-- Assumes nothing.
use Rattle.std.specs.Prelude.{ℕ, List, [], ◌∷◌}
use Rattle.std.specs.List.{AllByRecursion}
use Rattle.machine.specs.Show.{Show}
use Rattle.rules.specs.declared.templates.Template.{Template}
use Rattle.rules.specs.declared.templates.Template.TheVariants.{Absence, Init, Response, AlternateResponse, ChainResponse, NotSuccession, NotChainSuccession}
use Rattle.rules.specs.Rule.{Terms, HoldsOf}
use Rattle.book.specs.declared.values.Value.{Value}
use Rattle.book.specs.declared.values.Value.TheVariants.{Holds, Fails}
use Rattle.book.specs.Value.{Reads, after_show}

-- A reading behind a show: this value, and these permitted cues as bits.
pub record ReadingTold : Type 0 where
  pub show : Show
  pub value : Value
  pub permitted : ℕ

-- A case: a rule that holds of the first show and not of the second; or the readings of a rule behind two shows, in a book of so
-- many cues.
pub data ExampleCase : Type 0 where
  yes_then_no : Terms → Show → Show → ExampleCase
  reads_then : Terms → ℕ → ReadingTold → ReadingTold → ExampleCase

-- What a case says.
abbrev pub ReadsAs : Terms → ℕ → ReadingTold → Type 0
ReadsAs r count x = Reads count (after_show r x.show) x.value x.permitted

abbrev pub CaseHolds : ExampleCase → Type 0
CaseHolds (yes_then_no r s t) = HoldsOf r s × (HoldsOf r t → ⊥)
CaseHolds (reads_then r count x y) = ReadsAs r count x × ReadsAs r count y

-- The rules of the cases: a count of A, A alone, and A with B.
abbrev counted_a : Template → ℕ → Terms
counted_a t n = record { template = t; a = 0; b = 0; n = n }

abbrev only_a : Template → Terms
only_a t = counted_a t 0

abbrev a_and_b : Template → Terms
a_and_b t = record { template = t; a = 0; b = 1; n = 0 }

abbrev pub example_cases : List ExampleCase
example_cases =
    yes_then_no (a_and_b Response) (0 ∷ 0 ∷ 1 ∷ 2 ∷ []) (0 ∷ 1 ∷ 0 ∷ 2 ∷ []) ∷
    yes_then_no (counted_a Absence 2) (0 ∷ []) (0 ∷ 0 ∷ []) ∷
    yes_then_no (only_a Init) [] (1 ∷ 0 ∷ []) ∷
    yes_then_no (a_and_b ChainResponse) (0 ∷ 1 ∷ []) (0 ∷ []) ∷
    yes_then_no (a_and_b NotChainSuccession) (0 ∷ 2 ∷ 1 ∷ []) (0 ∷ 1 ∷ []) ∷
    yes_then_no (a_and_b AlternateResponse) (0 ∷ 1 ∷ 0 ∷ 1 ∷ []) (0 ∷ 0 ∷ 1 ∷ []) ∷
    yes_then_no (a_and_b NotSuccession) (1 ∷ 0 ∷ []) (0 ∷ 2 ∷ 1 ∷ []) ∷
    reads_then (a_and_b Response) 3 (record { show = []; value = Holds; permitted = 7 }) (record { show = 0 ∷ []; value = Fails; permitted = 7 }) ∷
    []

-- Each of them is so.
unfoldable pub ExampleCasesHold : Type 0
ExampleCasesHold = AllByRecursion CaseHolds example_cases
