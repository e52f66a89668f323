-- What is due has one answer: the line goes on with one thing said, or the sheet ends there, for one reason or as a whole.
-- Assumes nothing.
use Rattle.std.proofs.Common.{◌≡◌, ℕ, ◌<◌, ◌≤◌, ◌⊎◌, inl, inr, List, [], ◌∷◌, length, Option, Some, None, refl, sym, ap, subst, ◌∙◌, arith}
use Rattle.std.proofs.lemmas.Fmt.{decimal_injective}
use Rattle.std.proofs.lemmas.Option.{slice_get-get_or}
use Rattle.std.specs.List.{All}
use Rattle.std.specs.Prelude.{⊤, ◌↔◌}
use Rattle.rules.specs.declared.templates.Arguments.{Arguments}
use Rattle.rules.specs.declared.templates.Arguments.TheVariants.{CueAndCount, OneCue, TwoCues}
use Rattle.rules.specs.declared.templates.Template.{Template}
use Rattle.rules.specs.Form.{CountRight, CuesRight, InForm, kept_b, kept_n}
use Rattle.rules.specs.Naming.{template_number, template_word, arguments_of, WordsToldApart}
use Rattle.rules.specs.Rule.{Terms, kept}
use Rattle.rules.proofs.Words.{words_apart}
use Rattle.book.specs.declared.drafts.DraftRefusal.{DraftRefusal}
use Rattle.book.specs.declared.drafts.DraftRefusal.TheVariants as draft
use Rattle.book.specs.Draft.{NotAdded}
use Rattle.book.specs.Held.{most_rules}
use Rattle.sheet.specs.declared.faults.ReaderRefusal.TheVariants.{NotInForm, SectionCountOutside, NameTwice, NoSuchWord, NoSuchName, LeftOver}
use Rattle.sheet.specs.declared.faults.Refusal.{Refusal}
use Rattle.sheet.specs.declared.faults.Refusal.TheVariants.{Reader, Draft}
use Rattle.sheet.specs.Fault.{Due, SectionDue, NameDue, RuleDue, EndDue, IsArguments, AreNames, Fails, line_of}
use Rattle.sheet.specs.Names.{Named, Different, name_of}
use Rattle.sheet.specs.Sheet.{RuleRight, section_line, name_line, rule_line, argument_fields}
use Rattle.sheet.specs.Text.{Text, NameForm, WordForm, most_count}
use Rattle.sheet.proofs.Places.{one_number, cue_below}
use Rattle.sheet.proofs.WordForms.{template_form}

-- What a line says; and the answers to what is due: this is said, or the sheet ends, for a reason or as a whole.
pub data Said : Type 0 where
  Count : ℕ → Said
  Name : Text → Said
  Rule : Terms → Said

pub data Answer : Type 0 where
  Goes : Said → Answer
  Ends : Option Refusal → Answer

-- A check: something is found of which this is so, and the answer is up to that; or nothing is, and the answer is a refusal. Where
-- nothing is to be found, the check is whether this is so.
abbrev pub Check : {A : Type 0} → (A → Type 0) → Refusal → (A → Answer → Type 0) → Answer → Type 0
Check {A} F r D x = ((a : A) × F a × D a x) ⊎ ((x ≡ Ends (Some r)) × ((a : A) → F a → ⊥))

abbrev pub Must : Type 0 → Refusal → (Answer → Type 0) → Answer → Type 0
Must F r D x = Check (λ (_ : ⊤). F) r (λ _. D) x

-- The fields behind a template's word tell the rule r over these names.
abbrev pub Tells : List Text → Template → List Text → Terms → Type 0
Tells names t fs r = (x y : Text) × (n a b : ℕ) × IsArguments (arguments_of t) fs x y n × AreNames names (arguments_of t) x y a b × (r ≡ kept t a b n)

-- What is answered to that rule, by a draft with these.
abbrev pub Adds : List Terms → Template → Terms → Answer → Type 0
Adds rs t r = Must (CountRight (arguments_of t) r.n) (Draft draft.CountOutside)
    (Must (CuesRight (arguments_of t) r.a r.b) (Draft draft.SameCue) (Must (length rs < most_rules) (Draft draft.Full) (λ x. x ≡ Goes (Rule r))))

-- What is answered to the rest of a sheet, check by check.
abbrev pub Judges : Due → Text → Answer → Type 0
Judges (SectionDue word least most) rest = Check (λ n. (n ≤ most_count) × (line_of rest ≡ Some (section_line word n))) (Reader NotInForm)
    (λ n. Must ((least ≤ n) × (n ≤ most)) (Reader SectionCountOutside) (λ x. x ≡ Goes (Count n)))
Judges (NameDue names) rest = Check (λ x. NameForm x × (line_of rest ≡ Some (name_line x))) (Reader NotInForm)
    (λ x. Must ((c : ℕ) → Named names x c → ⊥) (Reader NameTwice) (λ y. y ≡ Goes (Name x)))
Judges (RuleDue names rs) rest = Check (λ (p : Text × List Text). WordForm p.0 × (line_of rest ≡ Some (p.0 ∷ p.1))) (Reader NotInForm)
    (λ p. Check (λ t. p.0 ≡ template_word t) (Reader NoSuchWord)
    (λ t. Must ((x y : Text) × (n : ℕ) × IsArguments (arguments_of t) p.1 x y n) (Reader NotInForm)
    (Check (λ r. Different names × Tells names t p.1 r) (Reader NoSuchName) (Adds rs t))))
Judges EndDue rest = Must (rest ≡ []) (Reader LeftOver) (λ x. x ≡ Ends None)

-- What has one answer: a check that finds one thing at most, which has one; and an answer by itself.
abbrev Once : (Answer → Type 0) → Type 0
Once D = (x y : Answer) → D x → D y → x ≡ y

check_once : {A : Type 0} (F : A → Type 0) (r : Refusal) (D : A → Answer → Type 0) → ((a b : A) → F a → F b → a ≡ b) → ((a : A) → Once (D a)) → Once (Check F r D)
check_once F r D one once x y (inl (a, f, d)) (inl (b, g, e)) = once a x y d (subst (λ c. D c y) (one b a g f) e)
check_once F r D one once x y (inl (a, f, d)) (inr (e, none)) = absurd (none a f)
check_once F r D one once x y (inr (e, none)) (inl (a, f, d)) = absurd (none a f)
check_once F r D one once x y (inr (e, none)) (inr (d, never)) = e ∙ sym d

passes_once : (F : Type 0) (r : Refusal) (D : Answer → Type 0) → Once D → Once (Must F r D)
passes_once F r D once = check_once (λ (_ : ⊤). F) r (λ _. D) (λ a b f g. refl) (λ _. once)

itself_once : (x : Answer) → Once (λ y. y ≡ x)
itself_once x y z e d = e ∙ sym d

-- Fields are arguments in one way, as far as these are taken.
arguments_once : (taken : Arguments) (fs : List Text) (x y u v : Text) (n m : ℕ) → IsArguments taken fs x y n → IsArguments taken fs u v m
    → (x ≡ u) × (taken ≡ TwoCues → y ≡ v) × (taken ≡ CueAndCount → n ≡ m)
arguments_once CueAndCount fs x y u v n m h k = let e = sym h.are ∙ k.are in (cc, λ two. cc, λ counts. decimal_injective n m (omega arith) (omega arith) (cc))
arguments_once OneCue fs x y u v n m h k = let e = sym h.are ∙ k.are in (cc, λ two. cc, λ counts. cc)
arguments_once TwoCues fs x y u v n m h k = let e = sym h.are ∙ k.are in (cc, λ two. cc, λ counts. cc)

-- What is kept depends on what is taken alone; and it is right when what is given is.
kept_once : (taken : Arguments) (b d n m : ℕ) → (taken ≡ TwoCues → b ≡ d) → (taken ≡ CueAndCount → n ≡ m) → (kept_b taken b ≡ kept_b taken d) × (kept_n taken n ≡ kept_n taken m)
kept_once CueAndCount b d n m two counts = (refl, counts refl)
kept_once OneCue b d n m two counts = (refl, refl)
kept_once TwoCues b d n m two counts = (two refl, refl)

kept_right : (taken : Arguments) (a b n : ℕ) → (CountRight taken (kept_n taken n) ↔ CountRight taken n) × (CuesRight taken a (kept_b taken b) ↔ CuesRight taken a b)
kept_right CueAndCount a b n = ((λ h. h, λ h. h), (λ h e. cc, λ h e. cc))
kept_right OneCue a b n = ((λ h e. cc, λ h e. cc), (λ h e. cc, λ h e. cc))
kept_right TwoCues a b n = ((λ h e. cc, λ h e. cc), (λ h. h, λ h. h))

-- Fields tell one rule over different names.
tells_once : (names : List Text) (t : Template) (fs : List Text) (r s : Terms) → Different names × Tells names t fs r → Different names × Tells names t fs s → r ≡ s
tells_once names t fs r s (different, (x, y, n, a, b, h, are, e)) (other, (u, v, m, c, d, k, named, f)) =
    let same = arguments_once (arguments_of t) fs x y u v n m h k in
    let a_is : a ≡ c = different a c u (rw same.0 at are.0) named.0 in
    let kept_is = kept_once (arguments_of t) b d n m (λ two. different b d v (rw (same.1 two) at (are.1 two)) (named.1 two)) same.2 in
    cc

-- A line has one first field, and one list of fields behind it.
first_once : (w v : Text) (fs gs : List Text) → Some (w ∷ fs) ≡ Some (v ∷ gs) → ◌≡◌ {A = Text × List Text} (w, fs) (v, gs)
first_once w v fs gs e = cc

-- What is due has one answer.
pub judges_once : (d : Due) (rest : Text) → Once (Judges d rest)
unfolding WordsToldApart
judges_once (SectionDue word least most) rest = check_once _ _ _ (λ n m h k. decimal_injective n m (omega arith) (omega arith) (cc)) (λ n. passes_once _ _ _ (itself_once (Goes (Count n))))
judges_once (NameDue names) rest = check_once _ _ _ (λ x y h k. cc) (λ x. passes_once _ _ _ (itself_once (Goes (Name x))))
judges_once (RuleDue names rs) rest = check_once _ _ _ (λ p q h k. first_once p.0 q.0 p.1 q.1 (sym h.1 ∙ k.1)) (λ p. check_once _ _ _ (λ t u e f. words_apart t u (sym e ∙ f))
    (λ t. passes_once _ _ _ (check_once _ _ _ (tells_once names t p.1) (λ r. passes_once _ _ _ (passes_once _ _ _ (passes_once _ _ _ (itself_once (Goes (Rule r)))))))))
judges_once EndDue rest = passes_once _ _ _ (itself_once (Ends None))

-- Why a draft refuses a rule is what it answers.
turned_down : (names : List Text) (rs : List Terms) (t : Template) (x y : Text) (a b n : ℕ) → AreNames names (arguments_of t) x y a b → (e : DraftRefusal)
    → NotAdded e (record { cues = length names; rules = rs }) (template_number t) a b n → Adds rs t (kept t a b n) (Ends (Some (Draft e)))
turned_down names rs t x y a b n are draft.NoSuchTemplate h = absurd (h t refl)
turned_down names rs t x y a b n are draft.NoSuchCue (u, is, fails) = absurd ((rw (one_number u t is) at fails) (cue_below names x a are.0, λ two. cue_below names y b (are.1 two)))
turned_down names rs t x y a b n are draft.CountOutside (u, is, h) =
    let k = rw (one_number u t is) at h in
    inr (refl, λ _ count. k.1 ((kept_right (arguments_of t) a b n).0.0 count))
turned_down names rs t x y a b n are draft.SameCue (u, is, h) =
    let k = rw (one_number u t is) at h in
    inl (tt, (kept_right (arguments_of t) a b n).0.1 k.1, inr (refl, λ _ cues. k.2 ((kept_right (arguments_of t) a b n).1.0 cues)))
turned_down names rs t x y a b n are draft.Full (u, is, h) =
    let k = rw (one_number u t is) at h in
    inl (tt, (kept_right (arguments_of t) a b n).0.1 k.1.count, inl (tt, (kept_right (arguments_of t) a b n).1.1 k.1.cues, inr (refl, λ _ room. k.2 room)))
turned_down names rs t x y a b n are draft.NoSuchRule h = absurd h

-- A line with a template's word and its arguments: the cues and the draft tell the answer.
found : (names : List Text) (rs : List Terms) (t : Template) (fs : List Text) (x y : Text) (n : ℕ) (rest : Text) (answer : Answer) → line_of rest ≡ Some (template_word t ∷ fs) → IsArguments (arguments_of t) fs x y n
    → Check (λ r. Different names × Tells names t fs r) (Reader NoSuchName) (Adds rs t) answer → Judges (RuleDue names rs) rest answer
found names rs t fs x y n rest answer line args more = inl ((template_word t, fs), (template_form t, line), inl (t, refl, inl (tt, (x, y, n, args), more)))

-- The names over which a rule is due are different.
abbrev pub OverDifferent : Due → Type 0
OverDifferent (RuleDue names rs) = Different names
OverDifferent d = ⊤

-- Why what is due fails is its answer.
pub fails_judged : (d : Due) (rest : Text) (r : Refusal) → OverDifferent d → Fails d rest r → Judges d rest (Ends (Some r))
fails_judged (SectionDue word least most) rest (Reader NotInForm) _ h = inr (refl, λ n f. h (n, f.0, f.1, tt))
fails_judged (SectionDue word least most) rest (Reader SectionCountOutside) _ h = inl (h.0, (h.1, h.2), inr (refl, λ _ f. h.3 f))
fails_judged (SectionDue word least most) rest r _ h = absurd h
fails_judged (NameDue names) rest (Reader NotInForm) _ h = inr (refl, λ x f. h (x, f.0, f.1, tt))
fails_judged (NameDue names) rest (Reader NameTwice) _ h = inl (h.0, (h.1, h.2), inr (refl, λ _ new. new h.3.0 h.3.1))
fails_judged (NameDue names) rest r _ h = absurd h
fails_judged (RuleDue names rs) rest (Reader NotInForm) _ (inl none) = inr (refl, λ p f. none (p.0, p.1, f.1, f.0))
fails_judged (RuleDue names rs) rest (Reader NotInForm) _ (inr (w, fs, line, (t, word, none))) =
    inl ((w, fs), (rw word (template_form t), line), inl (t, word, inr (refl, λ _ f. none f.0 f.1 f.2 f.3)))
fails_judged (RuleDue names rs) rest (Reader NoSuchWord) _ (w, fs, line, (form, none)) = inl ((w, fs), (form, line), inr (refl, none))
fails_judged (RuleDue names rs) rest (Reader NoSuchName) _ (t, fs, line, x, y, n, args, none) = found names rs t fs x y n rest _ line args (inr (refl, λ r f. nameless r f.1))
  where
    nameless : (r : Terms) → Tells names t fs r → ⊥
    nameless r (u, v, m, a, b, h, are, e) =
        let same = arguments_once (arguments_of t) fs u v x y m n h args in
        none a b (rw same.0 at are.0, λ two. rw (same.1 two) at (are.1 two))
fails_judged (RuleDue names rs) rest (Draft e) different (t, fs, line, x, y, n, args, (a, b, are, h)) =
    found names rs t fs x y n rest _ line args (inl (kept t a b n, (different, (x, y, n, a, b, args, are, refl)), turned_down names rs t x y a b n are e h))
fails_judged (RuleDue names rs) rest r _ h = absurd h
fails_judged EndDue rest r _ h = inr (ap (λ r. Ends (Some r)) h.0, λ _ none. h.1 none)

-- The count of a rule in form is small.
small : (taken : Arguments) (a b n : ℕ) → InForm taken a b n → n ≤ most_count
small CueAndCount a b n h = omega (arith, (h.right.count refl).1)
small OneCue a b n h = omega (arith, h.no_n)
small TwoCues a b n h = omega (arith, h.no_n)

-- The fields behind a right rule's word are its arguments, and its line says that rule.
module _ (names : List Text) (forms : All NameForm names) (r : Terms) (right : RuleRight (length names) r) where
  abbrev behind_word : List Text
  behind_word = argument_fields (arguments_of r.template) (name_of names r.a) (name_of names r.b) r.n

  pub rule_arguments : IsArguments (arguments_of r.template) behind_word (name_of names r.a) (name_of names r.b) r.n
  rule_arguments = record { are = refl; first = forms r.a [] right.0.0; second = λ two. forms r.b [] (right.0.1 two); count = small _ _ _ _ right.1 }

  told : Tells names r.template behind_word r
  told = (name_of names r.a, name_of names r.b, r.n, r.a, r.b, rule_arguments, (named r.a right.0.0, λ two. named r.b (right.0.1 two)), λ i. record r { b = right.1.no_b i; n = right.1.no_n i })
    where
      named : (c : ℕ) → c < length names → Named names (name_of names c) c
      named c lt = (name_of names c, slice_get-get_or names c [] lt, refl)

  pub rule_goes : (rs : List Terms) (rest : Text) → Different names → length rs < most_rules → line_of rest ≡ Some (rule_line names r) → Judges (RuleDue names rs) rest (Goes (Rule r))
  rule_goes rs rest different room line = found names rs r.template behind_word _ _ r.n rest _ line rule_arguments
      (inl (r, (different, told), inl (tt, right.1.right.count, inl (tt, right.1.right.cues, inl (tt, room, refl)))))
