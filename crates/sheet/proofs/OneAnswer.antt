-- A sheet has one answer: it is written of one comparison, or it has one fault, and never both.
-- Assumes nothing.
use Rattle.std.proofs.Common.{◌≡◌, ℕ, zero, suc, ◌<◌, ◌≤◌, ◌⊎◌, inl, inr, Bool, true, false, IsTrue, List, [], ◌∷◌, ◌++◌, length, map, Option, Some, None, refl, sym, ap, subst, ◌∙◌, append_assoc, arith}
use Rattle.std.proofs.lemmas.Bool.Decides.{nat_tests}
use Rattle.std.proofs.lemmas.List.{append-nil}
use Rattle.std.proofs.lemmas.List.Concat.{flat_map-append}
use Rattle.std.proofs.lemmas.List.Elements.{All-nil, All-cons}
use Rattle.std.proofs.lemmas.Option.{slice_get_within, get_or_from_slice_get}
use Rattle.std.specs.List.{All}
use Rattle.std.specs.Prelude.{flat_map, if◌then◌else◌, nat_lt, slice_get, decimal}
use Rattle.rules.specs.declared.templates.Arguments.{Arguments}
use Rattle.rules.specs.declared.templates.Arguments.TheVariants.{CueAndCount, OneCue, TwoCues}
use Rattle.rules.specs.Naming.{template_word}
use Rattle.rules.specs.Rule.{Terms}
use Rattle.book.specs.Held.{most_rules}
use Rattle.sheet.specs.declared.faults.Fault.{Fault}
use Rattle.sheet.specs.declared.faults.Refusal.{Refusal}
use Rattle.sheet.specs.Fault.{Due, SectionDue, NameDue, RuleDue, EndDue, due, line_of, IsArguments, FaultInLine, FaultOf}
use Rattle.sheet.specs.Names.{Named}
use Rattle.sheet.specs.Sheet.{Comparison, WellFormed, written, whole, Beginning, Opening, InCues, InLeft, InRight, lines, InOrder, NamesInOrder, RulesInOrder, RuleRight, cues_word, left_word, right_word, cues_lines, book_lines, most_names, section_line, name_line, rule_line}
use Rattle.sheet.specs.Text.{Text, NameForm, most_count, written_line}
use Rattle.sheet.proofs.Judging.{Said, Count, Name, Rule, Goes, Ends, Judges, OverDifferent, judges_once, fails_judged, rule_goes, rule_arguments}
use Rattle.sheet.proofs.ReadBack.{Solid, behind, line_read, line_behind, name_solid, word_solid, count_solid}
use Rattle.sheet.proofs.Short.{short}
use Rattle.sheet.proofs.WordForms.{word_test, word_form, template_form}

-- What stands after a line, by what it says.
abbrev after : Beginning → Said → Beginning
after Opening (Count n) = InCues n []
after (InCues n names) (Name x) = InCues n (names ++ x ∷ [])
after (InCues n names) (Count m) = InLeft names m []
after (InLeft names n rs) (Rule r) = InLeft names n (rs ++ r ∷ [])
after (InLeft names n rs) (Count m) = InRight names rs m []
after (InRight names left n rs) (Rule r) = InRight names left n (rs ++ r ∷ [])
after b s = b

-- What comes of a sheet that ends there: a fault, or what it says. None ends as a whole before the last section, so what is said of
-- such a one does not matter.
abbrev Outcome : Type 0
Outcome = Fault ⊎ Comparison

abbrev outcome : Beginning → Option Refusal → Outcome
outcome b (Some r) = inl (record { refusal = r; line = suc (length (lines b)) })
outcome (InRight names left n rs) None = inr (record { names = names; left = left; right = rs })
outcome b None = inr (record { names = []; left = []; right = [] })

-- What comes of the rest of a sheet, line by line; and it is one.
data Judged : Beginning → Text → Outcome → Type 0 where
  ends : {b : Beginning} {rest : Text} (r : Option Refusal) → Judges (due b) rest (Ends r) → Judged b rest (outcome b r)
  goes : {b : Beginning} {rest : Text} {o : Outcome} (s : Said) → Judges (due b) rest (Goes s) → Judged (after b s) (behind rest) o → Judged b rest o

judged_once : (b : Beginning) (rest : Text) (o p : Outcome) → Judged b rest o → Judged b rest p → o ≡ p
judged_once b rest o p (ends r j) (ends q k) = let e : Ends r ≡ Ends q = judges_once (due b) rest _ _ j k in cc
judged_once b rest o p (ends r j) (goes t k more) = let e : Ends r ≡ Goes t = judges_once (due b) rest _ _ j k in cc
judged_once b rest o p (goes s j more) (ends q k) = let e : Goes s ≡ Ends q = judges_once (due b) rest _ _ j k in cc
judged_once b rest o p (goes s j more) (goes t k others) =
    let e : Goes s ≡ Goes t = judges_once (due b) rest _ _ j k in
    let same : t ≡ s = cc in
    judged_once (after b s) (behind rest) o p more (subst (λ u. Judged (after b u) (behind rest) p) same others)

-- Lines lead from what stands before them to what stands after: what comes of what is behind them comes of all. No line leads to
-- what stands already, and lines lead on from where others lead.
record Leads (b : Beginning) (ls : List (List Text)) (c : Beginning) : Type 0 where
  to : (rest : Text) (o : Outcome) → Judged c rest o → Judged b (flat_map written_line ls ++ rest) o

no_line : (b : Beginning) → Leads b [] b
no_line b = record { to = λ rest o j. j }

on : {b c d : Beginning} {ls ms : List (List Text)} → Leads b ls c → Leads c ms d → Leads b (ls ++ ms) d
on {ls = ls} {ms = ms} h k = record { to = λ rest o j. rw (flat_map-append written_line ls ms, append_assoc) (h.to _ o (k.to rest o j)) }

-- One line leads to what stands after what it says.
line_leads : (b : Beginning) {d : Due} (f : Text) (fs : List Text) (s : Said) → due b ≡ d → All Solid (f ∷ fs) → ((rest : Text) → line_of rest ≡ Some (f ∷ fs) → Judges d rest (Goes s)) → Leads b ((f ∷ fs) ∷ []) (after b s)
line_leads b f fs s is solid says = record {
  to = λ rest o j. rw (append-nil (written_line (f ∷ fs)))
      (goes {b = b} {rest = written_line (f ∷ fs) ++ rest} {o = o} s (rw is (says (written_line (f ∷ fs) ++ rest) (line_read f fs rest solid))) (rw (line_behind f fs rest solid) j));
}

-- A section leads to all its items: its own line does to none, and each item's line to that item after those before it.
section_leads : {X : Type 0} (b : Beginning) (word : Text) (least most n : ℕ) (state : List X → Beginning) (line : X → List Text) (all : List X) → IsTrue (word_test word)
    → due b ≡ SectionDue word least most → after b (Count n) ≡ state [] → n ≤ most_count → least ≤ n → n ≤ most
    → ((done : List X) (x : X) (more : List X) → done ++ x ∷ more ≡ all → Leads (state done) (line x ∷ []) (state (done ++ x ∷ []))) → Leads b (section_line word n ∷ map line all) (state all)
section_leads {X} b word least most n state line all test is first small low high step =
    on (rw first at (line_leads b word (decimal n ∷ []) (Count n) is solid (λ rest reads. inl (n, (small, reads), inl (tt, (low, high), refl))))) (items [] all refl)
  where
    solid : All Solid (section_line word n)
    solid = All-cons Solid word (decimal n ∷ []) (word_solid word (word_form word test)) (All-cons Solid (decimal n) [] (count_solid n (omega arith)) (All-nil Solid))

    items : (done more : List X) → done ++ more ≡ all → Leads (state done) (map line more) (state all)
    items done [] e = let is : done ≡ all = sym (append-nil done) ∙ e in rw is (no_line (state all))
    items done (x ∷ more) e = on (step done x more e) (items (done ++ x ∷ []) more (append_assoc done (x ∷ []) more ∙ e))

-- What stands in a list stands there when more follows.
stands : {X : Type 0} (done more : List X) (k : ℕ) (y : X) → slice_get done k ≡ Some y → slice_get (done ++ more) k ≡ Some y
stands [] more k y h = cc
stands (x ∷ done) more zero y h = h
stands (x ∷ done) more (suc k) y h = stands done more k y h

-- An item of a list stands behind those before it, and what holds of all items holds of it.
item : {X : Type 0} (P : X → Type 0) (all done : List X) (x : X) (more : List X) → All P all → done ++ x ∷ more ≡ all → (slice_get all (length done) ≡ Some x) × (length done < length all) × P x
item {X} P all done x more h e =
    let at : slice_get all (length done) ≡ Some x = rw (← e) (behind_those done) in
    let within : length done < length all = slice_get_within all (length done) x at in
    (at, within, rw (get_or_from_slice_get all (length done) x x at) at (h (length done) x within))
  where
    behind_those : (done : List X) → slice_get (done ++ x ∷ more) (length done) ≡ Some x
    behind_those [] = refl
    behind_those (y ∷ done) = behind_those done

-- What is due where more items are to come, and where none are.
pub more_due : (k n : ℕ) (d e : Due) → k < n → (if nat_lt k n then d else e) ≡ d
more_due k n d e h = grind (arith, nat_tests)

pub none_due : (n : ℕ) (d e : Due) → (if nat_lt n n then d else e) ≡ e
none_due n d e = grind (arith, nat_tests)

-- The section of names leads to all of them.
names_lead : (n : ℕ) (names : List Text) → NamesInOrder n names → Leads Opening (cues_lines n names) (InCues n names)
names_lead n names h = section_leads Opening cues_word 1 most_names n (InCues n) name_line names refl refl refl (omega (arith, h.few)) h.some h.few step
  where
    step : (done : List Text) (x : Text) (more : List Text) → done ++ x ∷ more ≡ names → Leads (InCues n done) (name_line x ∷ []) (InCues n (done ++ x ∷ []))
    step done x more e =
        let it = item NameForm names done x more h.forms e in
        line_leads (InCues n done) x [] (Name x) (more_due (length done) n _ _ (omega (arith, h.room, it.1))) (All-cons Solid x [] (name_solid x it.2) (All-nil Solid)) (λ rest reads. inl (x, (it.2, reads), inl (tt, new, refl)))
      where
        new : (c : ℕ) → Named done x c → ⊥
        new c k =
            let same : c ≡ length done = h.different c (length done) x (k.0, rw e at (stands done (x ∷ more) c k.0 k.1), k.2) (x, (item NameForm names done x more h.forms e).0, refl) in
            omega (arith, slice_get_within done c k.0 k.1)

-- Arguments are solid.
arguments_solid : (taken : Arguments) (fs : List Text) (x y : Text) (n : ℕ) → IsArguments taken fs x y n → All Solid fs
arguments_solid CueAndCount fs x y n h = rw h.are (All-cons Solid x (decimal n ∷ []) (name_solid x h.first) (All-cons Solid (decimal n) [] (count_solid n (omega (arith, h.count))) (All-nil Solid)))
arguments_solid OneCue fs x y n h = rw h.are (All-cons Solid x [] (name_solid x h.first) (All-nil Solid))
arguments_solid TwoCues fs x y n h = rw h.are (All-cons Solid x (y ∷ []) (name_solid x h.first) (All-cons Solid y [] (name_solid y (h.second refl)) (All-nil Solid)))

-- The section of a book leads to all its rules.
rules_lead : (b : Beginning) (word : Text) (state : List Terms → Beginning) (names : List Text) (n : ℕ) (rs : List Terms) → NamesInOrder (length names) names → RulesInOrder names n rs → IsTrue (word_test word)
    → due b ≡ SectionDue word 0 most_rules → after b (Count n) ≡ state [] → ((done : List Terms) → length done < n → due (state done) ≡ RuleDue names done)
    → ((done : List Terms) (r : Terms) → after (state done) (Rule r) ≡ state (done ++ r ∷ [])) → Leads b (book_lines word names n rs) (state rs)
rules_lead b word state names n rs named h test is first dues nexts =
    section_leads b word 0 most_rules n state (rule_line names) rs test is first (omega (arith, h.few)) (omega arith) h.few step
  where
    step : (done : List Terms) (r : Terms) (more : List Terms) → done ++ r ∷ more ≡ rs → Leads (state done) (rule_line names r ∷ []) (state (done ++ r ∷ []))
    step done r more e =
        let it = item (RuleRight (length names)) rs done r more h.right e in
        rw (nexts done r) at (line_leads (state done) (template_word r.template) _ (Rule r) (dues done (omega (arith, h.room, it.1)))
        (All-cons Solid (template_word r.template) _ (word_solid _ (template_form r.template)) (arguments_solid _ _ _ _ _ (rule_arguments names named.forms r it.2)))
        (λ rest reads. rule_goes names named.forms r it.2 done rest named.different (omega (arith, h.room, h.few, it.1)) reads))

-- All lines that stand in order lead from the opening to what stands.
left_leads : (names : List Text) (n : ℕ) (rs : List Terms) → InOrder (InLeft names n rs) → Leads Opening (lines (InLeft names n rs)) (InLeft names n rs)
left_leads names n rs h = on (names_lead (length names) names h.0)
    (rules_lead (InCues (length names) names) left_word (InLeft names n) names n rs h.0 h.1 refl (none_due (length names) _ _) refl (λ done lt. more_due (length done) n _ _ lt) (λ done r. refl))

leads : (b : Beginning) → InOrder b → Leads Opening (lines b) b
leads Opening h = no_line Opening
leads (InCues n names) h = names_lead n names h
leads (InLeft names n rs) h = left_leads names n rs h
leads (InRight names left n rs) h = on (left_leads names (length left) left (h.0, h.1))
    (rules_lead (InLeft names (length left) left) right_word (InRight names left n) names n rs h.0 h.2 refl (none_due (length left) _ _) refl (λ done lt. more_due (length done) n _ _ lt) (λ done r. refl))

-- The names over which a rule is due there are different.
over_either : (t : Bool) (d e : Due) → OverDifferent d → OverDifferent e → OverDifferent (if t then d else e)
over_either true d e h k = h
over_either false d e h k = k

over_different : (b : Beginning) → InOrder b → OverDifferent (due b)
over_different Opening h = tt
over_different (InCues n names) h = over_either _ (NameDue names) (SectionDue left_word 0 most_rules) tt tt
over_different (InLeft names n rs) h = over_either _ (RuleDue names rs) (SectionDue right_word 0 most_rules) h.0.different tt
over_different (InRight names left n rs) h = over_either _ (RuleDue names rs) EndDue h.0.different tt

-- Of a sheet with a fault in a line comes that fault, and of one that is written what it says.
fault_judged : (sheet : Text) (f : Fault) → FaultInLine sheet f → Judged Opening sheet (inl f)
fault_judged sheet f h = rw h.stands ((leads h.before h.order).to h.rest (inl f) (subst (λ l. Judged h.before h.rest (inl (record f { line = l }))) (sym h.line)
    (ends {b = h.before} (Some f.refusal) (fails_judged (due h.before) h.rest f.refusal (over_different h.before h.order) h.fails))))

written_judged : (s : Comparison) → WellFormed s → Judged Opening (written s) (inr s)
written_judged s h = rw append-nil at ((leads (whole s) h).to [] (inr s) (ends {b = whole s} None (rw (none_due (length s.right) _ EndDue) (inl (tt, refl, refl)))))

-- A sheet that is written has no fault; a sheet has one fault at most; and it is written of one comparison at most.
pub accepted_or_not : (sheet : Text) (s : Comparison) (f : Fault) → WellFormed s → written s ≡ sheet → FaultOf sheet f → ⊥
accepted_or_not sheet s f h is (inl long) = omega (arith, short s h, ap length is, long.0)
accepted_or_not sheet s f h is (inr (fits, fault)) =
    let e : ◌≡◌ {A = Outcome} (inl f) (inr s) = judged_once Opening sheet (inl f) (inr s) (fault_judged sheet f fault) (rw is at (written_judged s h)) in
    cc

pub one_fault : (sheet : Text) (f g : Fault) → FaultOf sheet f → FaultOf sheet g → f ≡ g
one_fault sheet f g (inl h) (inl k) = λ i. record { refusal = (h.1 ∙ sym k.1) i; line = (h.2 ∙ sym k.2) i }
one_fault sheet f g (inl h) (inr k) = absurd (omega (arith, h.0, k.0))
one_fault sheet f g (inr h) (inl k) = absurd (omega (arith, h.0, k.0))
one_fault sheet f g (inr h) (inr k) =
    let e : ◌≡◌ {A = Outcome} (inl f) (inl g) = judged_once Opening sheet (inl f) (inl g) (fault_judged sheet f h.1) (fault_judged sheet g k.1) in
    cc

pub one_sheet : (s t : Comparison) → WellFormed s → WellFormed t → written s ≡ written t → s ≡ t
one_sheet s t h k is =
    let e : ◌≡◌ {A = Outcome} (inr s) (inr t) = judged_once Opening (written t) (inr s) (inr t) (rw is at (written_judged s h)) (written_judged t k) in
    cc
