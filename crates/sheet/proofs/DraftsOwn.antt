-- Which of a draft's refusals a sheet can have for its fault.
-- Assumes nothing.
use Rattle.std.proofs.Common.{◌≡◌, ◌<◌, ◌⊎◌, inl, inr, Bool, true, false, IsTrue, List, length, Option, refl, arith}
use Rattle.std.proofs.lemmas.Bool.Decides.{nat_tests}
use Rattle.std.specs.Prelude.{if◌then◌else◌, nat_lt}
use Rattle.rules.specs.Rule.{Terms}
use Rattle.book.specs.declared.drafts.DraftRefusal.{DraftRefusal}
use Rattle.book.specs.declared.drafts.DraftRefusal.TheVariants.{NoSuchTemplate, NoSuchCue, CountOutside, SameCue, Full, NoSuchRule}
use Rattle.book.specs.Held.{most_rules}
use Rattle.sheet.specs.declared.faults.Refusal.TheVariants.{Draft}
use Rattle.sheet.specs.Fault.{Due, SectionDue, NameDue, RuleDue, EndDue, due, Fails, RuleFails, line_of}
use Rattle.sheet.specs.Reading.{OnlyTheseOfADraft}
use Rattle.sheet.specs.Sheet.{Beginning, Opening, InCues, InLeft, InRight, InOrder}
use Rattle.sheet.specs.Text.{Text}
use Rattle.sheet.proofs.Places.{one_number, cue_below}

-- What is due where more may be to come.
chosen : (more : Bool) (d e x : Due) → (if more then d else e) ≡ x → (IsTrue more × (d ≡ x)) ⊎ (e ≡ x)
chosen true d e x is = inl (refl, is)
chosen false d e x is = inr is

-- Where a rule is due there is room for it.
room : (b : Beginning) (names : List Text) (rs : List Terms) → InOrder b → due b ≡ RuleDue names rs → length rs < most_rules
room Opening names rs order e = absurd cc
room (InCues n xs) names rs order e = elim (chosen (nat_lt (length xs) n) _ _ _ e) [ inl name ↦ absurd (let no_rule = name.1 in cc) | inr section ↦ absurd (let no_rule = section in cc) ]
room (InLeft xs n done) names rs order e = elim (chosen (nat_lt (length done) n) _ _ _ e)
    [ inl rule ↦ (let same : done ≡ rs = (let is = rule.1 in cc) in rw (← same) (Prim.grind (arith, nat_tests, rule.0, order.1.few))) | inr section ↦ absurd (let no_rule = section in cc) ]
room (InRight xs left n done) names rs order e = elim (chosen (nat_lt (length done) n) _ _ _ e)
    [ inl rule ↦ (let same : done ≡ rs = (let is = rule.1 in cc) in rw (← same) (Prim.grind (arith, nat_tests, rule.0, order.2.few))) | inr end ↦ absurd (let no_rule = end in cc) ]

-- A rule that is asked for over these names, where there is room, is turned down by a draft for its count or its cues alone.
of_rule : (names : List Text) (rs : List Terms) (line : Option (List Text)) (e : DraftRefusal) → length rs < most_rules → RuleFails names rs line (Draft e) → (e ≡ CountOutside) ⊎ (e ≡ SameCue)
of_rule names rs line CountOutside roomy fails = inl refl
of_rule names rs line SameCue roomy fails = inr refl
of_rule names rs line NoSuchTemplate roomy (t, fs, reads, x, y, n, are, (a, b, named, none)) = absurd (none t refl)
of_rule names rs line NoSuchCue roomy (t, fs, reads, x, y, n, are, (a, b, named, (u, same, high))) =
    absurd (high (cue_below names x a named.0, λ two. cue_below names y b (named.1 (rw (one_number u t same) at two))))
of_rule names rs line Full roomy (t, fs, reads, x, y, n, are, (a, b, named, (u, same, (low, right, full)))) = absurd (full roomy)
of_rule names rs line NoSuchRule roomy (t, fs, reads, x, y, n, are, (a, b, named, none)) = absurd none

-- What is due fails by a draft's refusal only where a rule is due.
of_draft : (d : Due) (rest : Text) (e : DraftRefusal) → ((names : List Text) (rs : List Terms) → d ≡ RuleDue names rs → length rs < most_rules) → Fails d rest (Draft e) → (e ≡ CountOutside) ⊎ (e ≡ SameCue)
of_draft (SectionDue word least most) rest e roomy fails = absurd fails
of_draft (NameDue names) rest e roomy fails = absurd fails
of_draft (RuleDue names rs) rest e roomy fails = of_rule names rs (line_of rest) e (roomy names rs refl) fails
of_draft EndDue rest e roomy fails = absurd (let is = fails.0 in cc)

-- Of a draft's refusals, a sheet has no other for its fault.
pub only_these : OnlyTheseOfADraft
unfolding OnlyTheseOfADraft
only_these sheet f e (inl long) is = absurd (let none = long.1 in cc)
only_these sheet f e (inr (short, h)) is = of_draft (due h.before) h.rest e (λ names rs. room h.before names rs h.order) (rw is at h.fails)
