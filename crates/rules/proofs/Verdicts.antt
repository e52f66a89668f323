-- At its first state a template asks of a word just that it holds.
-- Assumes nothing.
use Rattle.std.proofs.Common.{◌≡◌, ℕ, suc, ◌<◌, ◌≤◌, Bool, true, false, not, ◌⊎◌, ◌↔◌, inl, inr, refl, arith}
use Rattle.std.proofs.lemmas.Option.{slice_get_cases, slice_get_within}
use Rattle.std.specs.Bool.{beq, Decides}
use Rattle.std.proofs.lemmas.Bool.Decides.{Decides-and, Decides-or, Decides-not}
use Rattle.rules.specs.declared.letters.Letter.{Letter}
use Rattle.rules.specs.declared.letters.Letter.TheVariants.{A, B, Other}
use Rattle.rules.specs.declared.templates.Template.{Template}
use Rattle.rules.specs.declared.templates.Template.TheVariants.{Existence, Absence, Exactly, Init, Last, RespondedExistence, CoExistence, Response, Precedence, Succession, AlternateResponse, AlternatePrecedence, AlternateSuccession, ChainResponse, ChainPrecedence, ChainSuccession, NotCoExistence, NotSuccession, NotChainSuccession, Choice, ExclusiveChoice}
use Rattle.rules.specs.Word.{Word, StandsAt, Stands, StandsLater, StandsEarlier, NotBetween}
use Rattle.rules.specs.declared.templates.Arguments.TheVariants.{CueAndCount}
use Rattle.rules.specs.Template.{Holds, Responds, RespondsAlternately, RespondsDirectly, Precedes, PrecedesAlternately, PrecedesDirectly}
use Rattle.rules.specs.Naming.{arguments_of}
use Rattle.rules.proofs.Ahead.{any, no_a, no_b, none, ahead, asked}
use Rattle.rules.proofs.Places.{Only, NextB, Answer, Answered, Need, Preceded, in_words, is_same, each_place, tells_empty, tells_first, tells_last, tells_some, tells_next, tells_answered, tells_preceded}

-- No letter may stand in the gap: there is none.
no_gap : (w : Word) (l : Letter) (i j : ℕ) → i ≤ j → StandsAt l w j → Only none w i j → j ≡ i
no_gap w l i j le at o = let not_less : i < j → ⊥ = less in omega arith
  where
    less : i < j → ⊥
    less lt = elim ((slice_get_cases w i).1) [ inl (m, _, is, _) ↦ cc (o i m (omega arith) lt is) | inr (past, _) ↦ omega (arith, slice_get_within w j l at) ]

-- A place is answered behind any gap when a B stands later; behind a gap without A when no A stands between; behind none
-- when B stands directly after it.
answer_later : (w : Word) (i : ℕ) → Answer any w i ↔ StandsLater B w i
answer_later w i = (λ h. (h.0, h.1, h.2), λ h. (h.0, h.1, h.2, λ k l after before e. refl))

answer_alternate : (w : Word) (i : ℕ) → Answer no_a w i ↔ ((j : ℕ) × (i < j) × StandsAt B w j × NotBetween A w i j)
answer_alternate w i = (λ h. (h.0, h.1, h.2, without_a h.0 h.3), λ h. (h.0, h.1, h.2, only_without h.0 h.3))
  where
    without_a : (j : ℕ) → Only no_a w (suc i) j → NotBetween A w i j
    without_a j o k after before e = absurd (cc (o k A (omega arith) before e))

    only_without : (j : ℕ) → NotBetween A w i j → Only no_a w (suc i) j
    only_without j none_between k A after before e = absurd (none_between k (omega arith) before e)
    only_without j none_between k B after before e = refl
    only_without j none_between k Other after before e = refl

answer_directly : (w : Word) (i : ℕ) → Answer none w i ↔ StandsAt B w (suc i)
answer_directly w i = (λ h. rw (← no_gap w B (suc i) h.0 (omega (arith, h.1)) h.2 h.3) h.2, λ e. (suc i, omega arith, e, λ k l after before at. absurd (omega arith)))

-- Likewise for the A that a place needs before it.
need_earlier : (w : Word) (i : ℕ) → Need any false w i ↔ StandsEarlier A w i
need_earlier w i = (earlier, λ h. inl (h.0, h.1, h.2, λ k l after before e. refl))
  where
    earlier : Need any false w i → StandsEarlier A w i
    earlier (inl (j, lt, e, o)) = (j, lt, e)
    earlier (inr (h, o)) = absurd (cc h)

need_alternate : (w : Word) (i : ℕ) → Need no_b false w i ↔ ((j : ℕ) × (j < i) × StandsAt A w j × NotBetween B w j i)
need_alternate w i = (without_b, λ h. inl (h.0, h.1, h.2, only_without h.0 h.3))
  where
    without_b : Need no_b false w i → (j : ℕ) × (j < i) × StandsAt A w j × NotBetween B w j i
    without_b (inl (j, lt, e, o)) = (j, lt, e, λ k after before at. absurd (cc (o k B (omega arith) before at)))
    without_b (inr (h, o)) = absurd (cc h)

    only_without : (j : ℕ) → NotBetween B w j i → Only no_b w (suc j) i
    only_without j none_between k B after before e = absurd (none_between k (omega arith) before e)
    only_without j none_between k A after before e = refl
    only_without j none_between k Other after before e = refl

need_directly : (w : Word) (i : ℕ) → StandsAt B w i → Need none false w i ↔ ((j : ℕ) × (suc j ≡ i) × StandsAt A w j)
need_directly w i here = (directly, λ h. inl (h.0, omega (arith, h.1), h.2, λ k l after before e. absurd (omega (arith, h.1))))
  where
    directly : Need none false w i → (j : ℕ) × (suc j ≡ i) × StandsAt A w j
    directly (inl (j, lt, e, o)) = (j, omega (arith, no_gap w B (suc j) i (omega arith) here o), e)
    directly (inr (h, o)) = absurd (cc h)

-- Both or neither; exactly one.
tells_alike : {P Q : Type 0} → (x y : Bool) → Decides x P → Decides y Q → Decides (beq x y) ((P × Q) ⊎ ((P → ⊥) × (Q → ⊥)))
tells_alike x y p q = grind arith

tells_one : {P Q : Type 0} → (x y : Bool) → Decides x P → Decides y Q → Decides (not (beq x y)) ((P × (Q → ⊥)) ⊎ ((P → ⊥) × Q))
tells_one x y p q = grind arith

module _ (n : ℕ) (w : Word) where
  -- The tests of the rest, in a template's own words.
  some_b : {b : Bool} → Decides b (NextB any w) → Decides b (Stands B w)
  some_b = in_words (λ h. (h.0, h.1), λ h. (h.0, h.1, λ k l above below e. refl))

  responds : {b : Bool} → Decides b (Answered true any w) → Decides b (Responds w)
  responds = each_place A w _ _ (λ i e. answer_later w i)

  responds_alternately : {b : Bool} → Decides b (Answered true no_a w) → Decides b (RespondsAlternately w)
  responds_alternately = each_place A w _ _ (λ i e. answer_alternate w i)

  responds_directly : {b : Bool} → Decides b (Answered true none w) → Decides b (RespondsDirectly w)
  responds_directly = each_place A w _ _ (λ i e. answer_directly w i)

  precedes : {b : Bool} → Decides b (Preceded any false w) → Decides b (Precedes w)
  precedes = each_place B w _ _ (λ i e. need_earlier w i)

  precedes_alternately : {b : Bool} → Decides b (Preceded no_b false w) → Decides b (PrecedesAlternately w)
  precedes_alternately = each_place B w _ _ (λ i e. need_alternate w i)

  precedes_directly : {b : Bool} → Decides b (Preceded none false w) → Decides b (PrecedesDirectly w)
  precedes_directly = each_place B w _ _ (need_directly w)

  -- At its first state a template asks of a word just that it holds.
  pub asks_that_it_holds : (t : Template) → (arguments_of t ≡ CueAndCount → ⊥) → Decides (asked t (ahead t w) 0) (Holds t n w)
  asks_that_it_holds Existence counts = absurd (counts refl)
  asks_that_it_holds Absence counts = absurd (counts refl)
  asks_that_it_holds Exactly counts = absurd (counts refl)
  asks_that_it_holds Init _ = Decides-or _ _ (tells_empty Init w) (tells_first Init w)
  asks_that_it_holds Last _ = Decides-or _ _ (tells_empty Last w) (tells_last Last w)
  asks_that_it_holds RespondedExistence _ = Decides-or _ _ (Decides-not _ (tells_some RespondedExistence w)) (some_b (tells_next RespondedExistence w))
  asks_that_it_holds CoExistence _ = tells_alike _ _ (tells_some CoExistence w) (some_b (tells_next CoExistence w))
  asks_that_it_holds Response _ = responds (tells_answered Response w)
  asks_that_it_holds Precedence _ = precedes (tells_preceded Precedence w false)
  asks_that_it_holds Succession _ = Decides-and _ _ (responds (tells_answered Succession w)) (precedes (tells_preceded Succession w false))
  asks_that_it_holds AlternateResponse _ = responds_alternately (tells_answered AlternateResponse w)
  asks_that_it_holds AlternatePrecedence _ = precedes_alternately (tells_preceded AlternatePrecedence w false)
  asks_that_it_holds AlternateSuccession _ = Decides-and _ _ (responds_alternately (tells_answered AlternateSuccession w)) (precedes_alternately (tells_preceded AlternateSuccession w false))
  asks_that_it_holds ChainResponse _ = responds_directly (tells_answered ChainResponse w)
  asks_that_it_holds ChainPrecedence _ = precedes_directly (tells_preceded ChainPrecedence w false)
  asks_that_it_holds ChainSuccession _ = Decides-and _ _ (responds_directly (tells_answered ChainSuccession w)) (precedes_directly (tells_preceded ChainSuccession w false))
  asks_that_it_holds NotCoExistence _ = Decides-not _ (Decides-and _ _ (tells_some NotCoExistence w) (some_b (tells_next NotCoExistence w)))
  asks_that_it_holds NotSuccession _ = each_place A w _ _ (λ i e. is_same false (answer_later w i)) (tells_answered NotSuccession w)
  asks_that_it_holds NotChainSuccession _ = each_place A w _ _ (λ i e. is_same false (answer_directly w i)) (tells_answered NotChainSuccession w)
  asks_that_it_holds Choice _ = Decides-or _ _ (tells_some Choice w) (some_b (tells_next Choice w))
  asks_that_it_holds ExclusiveChoice _ = tells_one _ _ (tells_some ExclusiveChoice w) (some_b (tells_next ExclusiveChoice w))
