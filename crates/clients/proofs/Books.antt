-- What clients take from the promises of drafts and books.
-- Assumes nothing.
use Rattle.std.proofs.Common.{◌≡◌, ◌≢◌, ℕ, zero, suc, ◌<◌, ◌↔◌, Bool, true, false, not, IsTrue, Result, OnOk, OnErr, IsErrOf, rules, ◌^◌, ◌/◌, ◌==◌, List, [], ◌∷◌, ◌++◌, set, slice_get, Some, Ok, Err, refl, sym, subst, arith, ◌≤◌, ap, ◌∙◌}
use Rattle.std.specs.Bool.{beq}
use Rattle.std.proofs.lemmas.Bool.Decides.{Decides-eqb}
use Rattle.std.proofs.lemmas.Option.{slice_get_within}
use Rattle.machine.specs.Show.{Show, Cued}
use Rattle.machine.specs.Meaning.{leads_to}
use Rattle.machine.specs.Table.{bit}
use Rattle.rules.specs.declared.templates.Template.{Template}
use Rattle.rules.specs.Form.{CountRight, CuesRight}
use Rattle.rules.specs.Naming.{template_number, arguments_of}
use Rattle.rules.specs.declared.templates.Template.TheVariants.{Init, Response}
use Rattle.rules.specs.Rule.{Terms, kept, HoldsOf, retuned, letter_of, step_of}
use Rattle.book.specs.declared.values.Value.{Value}
use Rattle.book.specs.declared.values.Value.TheVariants.{HoldsAlways, Holds, Fails, FailsAlways}
use Rattle.book.specs.Content.{Content}
use Rattle.book.specs.Draft.{draft_content, RetunedRule, CuesBelow, Added}
use Rattle.book.specs.declared.values.ReadingRefusal.{ReadingRefusal}
use Rattle.book.specs.declared.drafts.Draft.{Draft}
use Rattle.book.specs.declared.drafts.DraftRefusal.{DraftRefusal}
use Rattle.book.specs.declared.drafts.DraftRefusal.TheVariants.{NoSuchTemplate, NoSuchCue, CountOutside, SameCue, Full, NoSuchRule}
use Rattle.book.specs.declared.books.Book.{Book}
use Rattle.book.specs.Examples.{ExampleCasesHold}
use Rattle.book.specs.Book.{book_content, book_meaning, part, MovesByParts}
use Rattle.book.specs.Value.{ValueIs, Always, Reads, ReadAlike, Relevant, behind, after_show, from_state}
use Rattle.book.specs.Reading.{Read, Weighed, ReadBehind, ReadBehindShows, WeighedBehind, WeighedBehindShows, OneReading, SecondANotRelevant}
use Rattle.clients.specs.Books.{IsFull, RuleIs, WithCount, OthersStay, StaysKept, StaysBroken, MayComeNext}

-- A rule put in a place stands there, and elsewhere stands what stood there.
set_here : (rs : List Terms) (i : ℕ) (r x : Terms) → slice_get rs i ≡ Some r → slice_get (set rs i x) i ≡ Some x
set_here [] i r x there = cc
set_here (y ∷ rs) zero r x there = refl
set_here (y ∷ rs) (suc i) r x there = set_here rs i r x there

set_elsewhere : (rs : List Terms) (i k : ℕ) (x : Terms) → k ≢ i → slice_get (set rs i x) k ≡ slice_get rs k
set_elsewhere [] i k x other = refl
set_elsewhere (y ∷ rs) zero zero x other = absurd (other refl)
set_elsewhere (y ∷ rs) zero (suc k) x other = refl
set_elsewhere (y ∷ rs) (suc i) zero x other = refl
set_elsewhere (y ∷ rs) (suc i) (suc k) x other = set_elsewhere rs i k x (λ e. other (omega (arith, e)))

-- A retuned rule has its count, and the others stay.
pub retuned_so : (g : Result Unit DraftRefusal) (i n : ℕ) (before after : Draft) → RetunedRule g i n before after → OnOk g (WithCount before after i n) × OnOk g (OthersStay before after i)
retuned_so (Ok done) i n before after (r, (there, takes), right, is) = (
  (r, retuned r n, there, ap (λ c. slice_get c.rules i) is ∙ set_here (draft_content before).rules i r (retuned r n) there, refl, refl, rw takes refl),
  record { cues = ap (λ c. c.cues) is; rules = λ k other. ap (λ c. slice_get c.rules k) is ∙ set_elsewhere (draft_content before).rules i k (retuned r n) other },
)
retuned_so (Err e) i n before after refused = (tt, tt)

-- By the value a rule holds whatever follows, or fails whatever follows.
pub always_if : (w : Value) (count : ℕ) (H : Show → Type 0) → ValueIs w count H → (w ≡ HoldsAlways) ↔ Always count H
always_if HoldsAlways count H (now, all) = (λ e. all, λ h. refl)
always_if Holds count H (now, (v, cued, fails)) = (λ e. absurd (cc e), λ h. absurd (fails (h v cued)))
always_if Fails count H (not, some) = (λ e. absurd (cc e), λ h. absurd (not (h [] tt)))
always_if FailsAlways count H (not, never) = (λ e. absurd (cc e), λ h. absurd (not (h [] tt)))

pub never_if : (w : Value) (count : ℕ) (H : Show → Type 0) → ValueIs w count H → (w ≡ FailsAlways) ↔ Always count (λ v. H v → ⊥)
never_if HoldsAlways count H (now, all) = (λ e. absurd (cc e), λ h. absurd (h [] tt now))
never_if Holds count H (now, some) = (λ e. absurd (cc e), λ h. absurd (h [] tt now))
never_if Fails count H (not, (v, cued, holds)) = (λ e. absurd (cc e), λ h. absurd (h v cued holds))
never_if FailsAlways count H (not, never) = (λ e. never, λ h. refl)

-- A place has one rule.
one_rule : (c : Content) (i : ℕ) (r x : Terms) → RuleIs c i r → RuleIs c i x → x ≡ r
one_rule c i r x there here = cc

module _ (b : Book) (s : Show) (i : ℕ) where
  pub kept_if_told : (w : Value) (m : ℕ) (told : Bool) → ReadBehind (Ok (w, m)) (book_content b) s i → IsTrue told ↔ (w ≡ HoldsAlways) → IsTrue told ↔ StaysKept b s i
  kept_if_told w m told (r, there, reads) is =
      let always = always_if w b.cues (after_show r s) reads.value in
      (λ h. (r, there, always.0 (is.0 h)), λ (x, here, all). is.1 (always.1 (subst (λ y. Always b.cues (after_show y s)) (one_rule (book_content b) i r x there here) all)))

  pub broken_if_told : (w : Value) (m : ℕ) (told : Bool) → ReadBehind (Ok (w, m)) (book_content b) s i → IsTrue told ↔ (w ≡ FailsAlways) → IsTrue told ↔ StaysBroken b s i
  broken_if_told w m told (r, there, reads) is =
      let never = never_if w b.cues (after_show r s) reads.value in
      (λ h. (r, there, never.0 (is.0 h)), λ (x, here, all). is.1 (never.1 (subst (λ y. Always b.cues (λ v. after_show y s v → ⊥)) (one_rule (book_content b) i r x there here) all)))

  pub next_if_told : (w : Value) (m q : ℕ) (told : Bool) → ReadBehind (Ok (w, m)) (book_content b) s i → IsTrue told ↔ IsTrue (bit m q) → IsTrue told ↔ MayComeNext b s i q
  next_if_told w m q told (r, there, reads) is = (
    λ h. let permitted = (reads.permitted q).0 (is.0 h) in (r, there, (permitted.0, λ never. permitted.1 (never [] tt, never))),
    λ (x, here, (low, some)). is.1 ((reads.permitted q).1 (low, λ fails. subst (λ y. (((v : Show) → Cued b.cues v → HoldsOf y (s ++ q ∷ v) → ⊥) → ⊥)) (one_rule (book_content b) i r x there here) some fails.1)),
  )

  -- Where no rule is read there is none.
  pub none_if_missing : (e : ReadingRefusal) (P : Terms → Type 0) → ReadBehind (Err e) (book_content b) s i → IsTrue false ↔ ((r : Terms) × RuleIs (book_content b) i r × P r)
  none_if_missing e P (is, past) = (λ h. absurd (cc h), λ (r, there, so). absurd (let low = slice_get_within (book_content b).rules i r there in omega (arith, past, low)))

-- The promise of a reading at the position to which a show leads.
pub read_here : (answer : Result (Value × ℕ) ReadingRefusal) (b : Book) (s : Show) (i p : ℕ) → ReadBehindShows answer b p i → Cued b.cues s → p ≡ leads_to (book_meaning b).steps s → ReadBehind answer (book_content b) s i
unfolding ReadBehindShows
read_here answer b s i p told cued leads = told s cued leads

pub weighed_here : (answer : Result Bool ReadingRefusal) (b : Book) (s : Show) (i p q : ℕ) → WeighedBehindShows answer b p i q → Cued b.cues s → p ≡ leads_to (book_meaning b).steps s → WeighedBehind answer (book_content b) s i q
unfolding WeighedBehindShows
weighed_here answer b s i p q told cued leads = told s cued leads

-- One more A is not relevant to a response that waits.
pub idle : (c : Content) (s : Show) (i q : ℕ) (r : Terms) (relevant : Bool) → SecondANotRelevant → RuleIs c i r → r.template ≡ Response → (HoldsOf r s → ⊥) → q ≡ r.a → WeighedBehind (Ok relevant) c s i q → relevant ≡ false
unfolding SecondANotRelevant
idle c s i q r false second there is waits is_a weighed = refl
idle c s i q r true second there is waits is_a (x, here, low, told) =
    let relevant : Relevant c.cues (after_show r s) q = subst (λ y. Relevant c.cues (after_show y s) q) (one_rule c i r x there here) (told.0 refl) in
    absurd (second c.cues r s is waits (rw is_a at relevant))

-- A cue is relevant exactly when two right readings, before it and after, differ.
module _ (count s q : ℕ) (r : Terms) (w x : Value) (m n : ℕ) (once : OneReading)
    (now : Reads count (from_state r s) w m) (then : Reads count (from_state r (step_of r s (letter_of r q))) x n) where
  alike_if_same : (w ≡ x) × (m ≡ n) → ReadAlike count (from_state r s) (behind q (from_state r s))
  unfolding OneReading
  alike_if_same (e, f) = record {
    value = λ v. (
      λ h. rw ((once count r s v w m m (record { value = h; permitted = now.permitted }) now).0, e) then.value,
      λ h. rw ((once count r (step_of r s (letter_of r q)) v x n n (record { value = h; permitted = then.permitted }) then).0, sym e) now.value,
    );
    permitted = λ p. (λ h. (then.permitted p).0 (rw f at (now.permitted p).1 h), λ h. (now.permitted p).0 (rw (sym f) at (then.permitted p).1 h));
  }

  same_if_alike : ReadAlike count (from_state r s) (behind q (from_state r s)) → (w ≡ x) × (m ≡ n)
  unfolding OneReading
  same_if_alike alike = once count r (step_of r s (letter_of r q)) w x m n (record {
    value = (alike.value w).0 now.value;
    permitted = λ p. (λ h. (alike.permitted p).0 ((now.permitted p).0 h), λ h. (now.permitted p).1 ((alike.permitted p).1 h));
  }) then

  pub other_if_relevant : (relevant same : Bool) → IsTrue relevant ↔ Relevant count (from_state r s) q → IsTrue same ↔ ((w ≡ x) × (m ≡ n)) → relevant ≡ not same
  other_if_relevant true true told is = absurd (told.0 refl (alike_if_same (is.0 refl)))
  other_if_relevant true false told is = refl
  other_if_relevant false true told is = refl
  other_if_relevant false false told is = let no : IsTrue false = told.1 (λ alike. absurd (cc (is.1 (same_if_alike alike)))) in absurd (cc no)

-- So relevance is told by the readings of a book at a position and at the next.
pub relevance_by_readings : (b : Book) (p next i q : ℕ) (relevant same : Bool) (now then : Value × ℕ) → OneReading → MovesByParts (book_meaning b) (book_content b) → next ≡ (book_meaning b).steps.next p q
    → Weighed (Ok relevant) (book_content b) p i q → Read (Ok now) (book_content b) p i → Read (Ok then) (book_content b) next i → IsTrue same ↔ ((now.0 ≡ then.0) × (now.1 ≡ then.1)) → relevant ≡ not same
relevance_by_readings b p next i q relevant same now then once moving leads (r, (there, low), below, told) (x, (here, also), reads) (y, (too, last), later) is =
    let first : Reads b.cues (from_state r (part p i)) now.0 now.1 = subst (λ z. Reads b.cues (from_state z (part p i)) now.0 now.1) (one_rule (book_content b) i r x there here) reads in
    let second : Reads b.cues (from_state r (part next i)) then.0 then.1 = subst (λ z. Reads b.cues (from_state z (part next i)) then.0 then.1) (one_rule (book_content b) i r y there too) later in
    let moved : part next i ≡ step_of r (part p i) (letter_of r q) = rw leads (moving.moves p q i r below there) in
    other_if_relevant b.cues (part p i) q r now.0 then.0 now.1 then.1 once first (rw moved at second) relevant same told is

-- What is the other of two truths differs from it.
pub differs : (relevant same : Bool) → relevant ≡ not same → IsTrue (not (beq relevant same))
differs relevant true e = rw e refl
differs relevant false e = rw e refl

-- The highest four bits of a position of 64 are its part 15.
pub top_bits : (p q : ℕ) → p < 2 ^ 64 → q < 2 ^ 64 → part p 15 ≡ part q 15 → IsTrue (p / 1152921504606846976 == q / 1152921504606846976)
top_bits p q low also same = let top : p / 1152921504606846976 ≡ q / 1152921504606846976 = omega arith in (Decides-eqb _ _).1 top

-- What the first example case says of the rule that it names.
pub first_example : (r : Terms) → r ≡ kept Response 0 1 0 → ExampleCasesHold → HoldsOf r (0 ∷ 0 ∷ 1 ∷ 2 ∷ []) × (HoldsOf r (0 ∷ 1 ∷ 0 ∷ 2 ∷ []) → ⊥)
unfolding ExampleCasesHold
first_example r is cases = subst (λ r. HoldsOf r (0 ∷ 0 ∷ 1 ∷ 2 ∷ []) × (HoldsOf r (0 ∷ 1 ∷ 0 ∷ 2 ∷ []) → ⊥)) (sym is) cases.0

-- An init of cue 0 is right for every draft, so only room can be wanting.
init_of : (t u : Template) → template_number t ≡ template_number u → t ≡ u
init_of = search rules

cue_below : (t : Template) (count : ℕ) → template_number t ≡ 4 → 1 ≤ count → CuesBelow count t 0 0
cue_below t count is some = rw (init_of t Init is) (omega arith, λ two. absurd (cc two))

count_right : (t : Template) → template_number t ≡ 4 → CountRight (arguments_of t) 0
count_right t is = rw (init_of t Init is) (λ counts. absurd (cc counts))

cues_right : (t : Template) → template_number t ≡ 4 → CuesRight (arguments_of t) 0 0
cues_right t is = rw (init_of t Init is) (λ two. absurd (cc two))

pub only_room : (g : Result Unit DraftRefusal) (before after : Draft) → Added g 4 0 0 0 before after → OnErr g (IsErrOf g Full × IsFull before)
only_room (Ok done) before after added = tt
only_room (Err NoSuchTemplate) before after (none, same) = absurd (none Init refl)
only_room (Err NoSuchCue) before after ((t, is, bad), same) = absurd (bad (cue_below t before.cues is before.some_cues))
only_room (Err CountOutside) before after ((t, is, (below, bad)), same) = absurd (bad (count_right t is))
only_room (Err SameCue) before after ((t, is, (below, right, bad)), same) = absurd (bad (cues_right t is))
only_room (Err Full) before after ((t, is, (below, right, bad)), same) = (refl, omega (arith, bad))
only_room (Err NoSuchRule) before after (never, same) = absurd never

-- What is not so is denied.
pub by_false : (told : Bool) → (IsTrue told → ⊥) → IsTrue (not told)
by_false true bad = absurd (bad refl)
by_false false bad = refl
