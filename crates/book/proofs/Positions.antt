-- Two shows lead a book to one position exactly when no rule tells them apart.
-- Assumes nothing.
use Rattle.std.proofs.Common.{◌≡◌, ℕ, zero, suc, ◌+◌, ◌/◌, ◌%◌, ◌≤◌, inl, inr, [], ◌∷◌, length, slice_index_or, sym, ap, ◌∙◌, arith}
use Rattle.std.proofs.lemmas.Bool.{cases_lt}
use Rattle.std.proofs.lemmas.List.Sums.{fold-append}
use Rattle.std.proofs.lemmas.Option.{slice_get-get_or}
use Rattle.machine.specs.Show.{Show}
use Rattle.machine.specs.Meaning.{Meaning, leads_to}
use Rattle.machine.proofs.ByLast.{by_last}
use Rattle.rules.specs.Rule.{Terms, word_of}
use Rattle.rules.specs.States.{StatesAre}
use Rattle.rules.proofs.Numbering.{rule_states}
use Rattle.book.specs.declared.held.Held.{Held}
use Rattle.book.specs.Held.{held_rules, blank}
use Rattle.book.specs.Content.{Content, RuleAt}
use Rattle.book.specs.Book.{part, content_meaning, NotToldApart, OnePosition}
use Rattle.book.proofs.Parts.{part_up, part_low, rule_of, moves_by_parts, part_after}

-- Two positions that agree in each part are one.
same_parts : (k p q : ℕ) → p ≤ k → q ≤ k → ((i : ℕ) → part p i ≡ part q i) → p ≡ q
same_parts zero p q low also_low same = omega arith
same_parts (suc k) p q low also_low same =
    let digits : p % 16 ≡ q % 16 = sym (part_low p) ∙ same 0 ∙ part_low q in
    let above : p / 16 ≡ q / 16 = same_parts k (p / 16) (q / 16) (omega arith) (omega arith) (λ i. sym (part_up p i) ∙ same (suc i) ∙ part_up q i) in
    omega arith

module _ (cues : ℕ) (h : Held) where
  abbrev content : Content
  content = record { cues = cues; rules = held_rules h }

  abbrev m : Meaning
  m = content_meaning content

  -- A show leaves the parts beyond the last rule at 0.
  none_beyond : (i : ℕ) → length (held_rules h) ≤ i → (s : Show) → part (leads_to m.steps s) i ≡ 0
  none_beyond i past = by_last (λ s. part (leads_to m.steps s) i ≡ 0) ((moves_by_parts cues h).start i)
      (λ s q before. ap (λ p. part p i) (fold-append m.steps.next 0 s (q ∷ [])) ∙ (moves_by_parts cues h).keeps (leads_to m.steps s) q i past ∙ before)

  -- A rule does not tell two shows apart exactly when both lead it to one state.
  states_are : (i : ℕ) (r : Terms) → RuleAt content i r → StatesAre r.template r.n
  states_are i r there = let (x, e) = rule_of h i r there in rw (sym e) (rule_states x)

  pub one_position : OnePosition m.steps content
  one_position s t here also = (apart, one)
    where
      apart : leads_to m.steps s ≡ leads_to m.steps t → NotToldApart content s t
      apart e i r there = ((states_are i r there).numbered.told_apart (word_of r s) (word_of r t)).0
          (sym (part_after cues h i r there s here) ∙ ap (λ p. part p i) e ∙ part_after cues h i r there t also)

      same_part : NotToldApart content s t → (i : ℕ) → part (leads_to m.steps s) i ≡ part (leads_to m.steps t) i
      same_part same i = elim (cases_lt i (length (held_rules h))) [
        | inl low ↦
            let there = slice_get-get_or (held_rules h) i blank low in
            let r = slice_index_or (held_rules h) i blank in
            part_after cues h i r there s here ∙ ((states_are i r there).numbered.told_apart (word_of r s) (word_of r t)).1 (same i r there) ∙ sym (part_after cues h i r there t also)
        | inr past ↦ none_beyond i past s ∙ sym (none_beyond i past t)
      ]

      one : NotToldApart content s t → leads_to m.steps s ≡ leads_to m.steps t
      one same = same_parts (leads_to m.steps s + leads_to m.steps t) (leads_to m.steps s) (leads_to m.steps t) (omega arith) (omega arith) (same_part same)
