-- What is read of a rule's line.
-- Assumes nothing.
use Rattle.std.proofs.Common.{◌≡◌, ℕ, List, [], ◌∷◌, Option, Some, None, length, refl, ◌∙◌, ap, arith, min}
use Rattle.std.proofs.lemmas.Option.{get_or_from_slice_get}
use Rattle.rules.specs.declared.templates.Arguments.{Arguments}
use Rattle.rules.specs.declared.templates.Arguments.TheVariants.{CueAndCount, OneCue, TwoCues}
use Rattle.rules.specs.declared.templates.Template.{Template}
use Rattle.rules.specs.Form.{CountRight, Right, InForm, kept_b, kept_n}
use Rattle.rules.specs.Naming.{template_number, template_word, arguments_of}
use Rattle.rules.specs.Rule.{Terms, kept}
use Rattle.book.specs.Content.{Content}
use Rattle.book.specs.declared.drafts.DraftRefusal.{DraftRefusal}
use Rattle.book.specs.declared.drafts.DraftRefusal.TheVariants.{NoSuchTemplate, NoSuchCue, CountOutside, SameCue, Full, NoSuchRule}
use Rattle.book.specs.Draft.{NotAdded, OfTemplate, CuesBelow, Room, with_rule}
use Rattle.sheet.specs.declared.faults.ReaderRefusal.TheVariants.{NoSuchName}
use Rattle.sheet.specs.declared.faults.Refusal.TheVariants.{Reader, Draft}
use Rattle.sheet.specs.declared.fields.Field.{Field}
use Rattle.sheet.specs.declared.fields.Field.TheVariants.{Name}
use Rattle.sheet.specs.declared.stretches.Stretch.{Stretch}
use Rattle.sheet.specs.Fault.{AreNames, RuleFails}
use Rattle.sheet.specs.Fields.{SecondIs}
use Rattle.sheet.specs.Lines.{SecondNamed, SecondCounted, ReadArguments, ReadCues}
use Rattle.sheet.specs.Names.{Named, field_text, name_of}
use Rattle.sheet.specs.RuleLines.{AsksFor}
use Rattle.sheet.specs.Sheet.{RuleRight, argument_fields, rule_line}
use Rattle.sheet.specs.Text.{Text}
use Rattle.sheet.proofs.Places.{one_number}

-- The name that follows is that of a cue.
pub second_named : (names : List Text) (second : Option Field) (s : Stretch) (b : ℕ) → second ≡ Some (Name s) → SecondNamed names second b → Named names s.text.now b
second_named names second s b e named = rw e at named

-- What follows is a name where one is taken, and then it is that of the cue which that name has; and a count where one is taken.
names_that_follow : (names : List Text) (taken : Arguments) (second : Option Field) (y : Text) (n b : ℕ) → SecondIs taken second y n → SecondNamed names second b → taken ≡ TwoCues → Named names y b
names_that_follow names CueAndCount second y n b is named e = cc
names_that_follow names OneCue second y n b is named e = cc
names_that_follow names TwoCues second y n b is named e = rw is.2 at (second_named names second is.0 b is.1 named)

follows_name : (names : List Text) (taken : Arguments) (second : Option Field) (y : Text) (n b : ℕ) → SecondIs taken second y n → (taken ≡ TwoCues → Named names y b) → SecondNamed names second (kept_b taken b)
follows_name names CueAndCount second y n b is named = rw is.1 refl
follows_name names OneCue second y n b is named = rw is refl
follows_name names TwoCues second y n b is named = rw (is.1, is.2) (named refl)

counts_that_follow : (taken : Arguments) (second : Option Field) (y : Text) (n k : ℕ) → SecondIs taken second y n → SecondCounted second k → taken ≡ CueAndCount → k ≡ min n 255
counts_that_follow CueAndCount second y n k is counted e = rw is.1 at counted
counts_that_follow OneCue second y n k is counted e = cc
counts_that_follow TwoCues second y n k is counted e = cc

-- What is lacking is 0.
lacking_b : (names : List Text) (taken : Arguments) (second : Option Field) (y : Text) (n b : ℕ) → SecondIs taken second y n → SecondNamed names second b → b ≡ kept_b taken b
lacking_b names CueAndCount second y n b is named = rw is.1 at named
lacking_b names OneCue second y n b is named = rw is at named
lacking_b names TwoCues second y n b is named = refl

lacking_k : (taken : Arguments) (second : Option Field) (y : Text) (n k : ℕ) → SecondIs taken second y n → SecondCounted second k → k ≡ kept_n taken k
lacking_k CueAndCount second y n k is counted = refl
lacking_k OneCue second y n k is counted = rw is at counted
lacking_k TwoCues second y n k is counted = rw is.1 at counted

-- A name that no cue has.
pub unknown_name : (names : List Text) (rules : List Terms) (line : Option (List Text)) (t : Template) (fs : List Text) (first : Field) (second : Option Field)
    → line ≡ Some (template_word t ∷ fs) → ReadArguments (Some (first, second)) (arguments_of t) fs → ReadCues None names first second → RuleFails names rules line (Reader NoSuchName)
unknown_name names rs line t fs first second reads (y, n, are, is) none =
    (t, fs, reads, field_text first, y, n, are, λ a b named. none a (kept_b (arguments_of t) b) named.0 (follows_name names (arguments_of t) second y n b is named.1))

-- What the line asks to add.
pub is_asked : (names : List Text) (line : Option (List Text)) (t : Template) (fs : List Text) (first : Field) (second : Option Field) (a b k : ℕ)
    → line ≡ Some (template_word t ∷ fs) → ReadArguments (Some (first, second)) (arguments_of t) fs → ReadCues (Some (a, b, k)) names first second → AsksFor names line t a b k
is_asked names line t fs first second a b k reads (y, n, are, is) (first_is, second_is, count_is) = record {
  fs = fs;
  x = field_text first;
  y = y;
  n = n;
  reads = reads;
  arguments = are;
  named = (first_is, names_that_follow names (arguments_of t) second y n b is second_is);
  counted = counts_that_follow (arguments_of t) second y n k is count_is;
  no_b = lacking_b names (arguments_of t) second y n b is second_is;
  no_k = lacking_k (arguments_of t) second y n k is count_is;
}

-- A count and what it is told as are right together.
told : (args : Arguments) (n k : ℕ) → (args ≡ CueAndCount → k ≡ min n 255) → CountRight args n → CountRight args k
told args n k counted right e = Prim.grind (arith, counted e, (right e).0, (right e).1)

meant : (args : Arguments) (n k : ℕ) → (args ≡ CueAndCount → k ≡ min n 255) → CountRight args k → CountRight args n
meant args n k counted right e = Prim.grind (arith, counted e, (right e).0, (right e).1)

-- A rule that is asked for is turned down as the line says.
pub turned_down : (names : List Text) (rules : List Terms) (line : Option (List Text)) (t : Template) (a b k : ℕ) (e : DraftRefusal) → AsksFor names line t a b k
    → NotAdded e (record { cues = length names; rules = rules }) (template_number t) a b k → RuleFails names rules line (Draft e)
turned_down names rs line t a b k e h no_rule = (t, h.fs, h.reads, h.x, h.y, h.n, h.arguments, (a, b, h.named, as_meant e no_rule))
  where
    own : (u : Template) → template_number u ≡ template_number t → arguments_of u ≡ CueAndCount → k ≡ min h.n 255
    own u same e = h.counted (rw (← (one_number u t same)) e)

    as_meant : (e : DraftRefusal) → NotAdded e (record { cues = length names; rules = rs }) (template_number t) a b k
        → NotAdded e (record { cues = length names; rules = rs }) (template_number t) a b h.n
    as_meant NoSuchTemplate no_rule = no_rule
    as_meant NoSuchCue no_rule = no_rule
    as_meant NoSuchRule no_rule = absurd no_rule
    as_meant CountOutside (u, same, (below, wrong)) = (u, same, (below, λ right. wrong (told (arguments_of u) h.n k (own u same) right)))
    as_meant SameCue (u, same, (below, right, wrong)) = (u, same, (below, meant (arguments_of u) h.n k (own u same) right, wrong))
    as_meant Full (u, same, (below, right, wrong)) = (u, same, (below, record { count = meant (arguments_of u) h.n k (own u same) right.count; cues = right.cues }, wrong))

-- The name of a cue.
named_is : (names : List Text) (x : Text) (c : ℕ) → Named names x c → x ≡ name_of names c
named_is names x c (y, at, same) = rw (get_or_from_slice_get names c y [] at) same

-- The fields of a line are those of the rule that is kept.
fields_kept : (args : Arguments) (names : List Text) (x y : Text) (a b n k : ℕ) → AreNames names args x y a b → (args ≡ CueAndCount → k ≡ n)
    → argument_fields args x y n ≡ argument_fields args (name_of names a) (name_of names (kept_b args b)) (kept_n args k)
fields_kept CueAndCount names x y a b n k named count = rw (count refl, ← (named_is names x a named.0)) refl
fields_kept OneCue names x y a b n k named count = rw (← (named_is names x a named.0)) refl
fields_kept TwoCues names x y a b n k named count = rw (← (named_is names x a named.0), ← (named_is names y b (named.1 refl))) refl

-- What is kept of right arguments is in form.
kept_in_form : (args : Arguments) (a b n : ℕ) → Right args a b n → InForm args a (kept_b args b) (kept_n args n)
kept_in_form CueAndCount a b n right = record { right = record { count = right.count; cues = λ e. absurd cc }; no_b = refl; no_n = refl }
kept_in_form OneCue a b n right = record { right = record { count = λ e. absurd cc; cues = λ e. absurd cc }; no_b = refl; no_n = refl }
kept_in_form TwoCues a b n right = record { right = record { count = λ e. absurd cc; cues = right.cues }; no_b = refl; no_n = refl }

-- A rule that is asked for and right is put last.
pub added : (names : List Text) (line : Option (List Text)) (t : Template) (a b k : ℕ) (before after : Content) → AsksFor names line t a b k → before.cues ≡ length names
    → OfTemplate (template_number t) (λ u. CuesBelow before.cues u a b × Right (arguments_of u) a b k × Room before × (after ≡ with_rule before (kept u a b k)))
    → (r : Terms) × RuleRight (length names) r × (line ≡ Some (rule_line names r)) × (after ≡ with_rule before r)
added names line t a b k before after h count (u, same, (below, right, room, is)) = of u (one_number u t same) below right is
  where
    of : (u : Template) → u ≡ t → CuesBelow before.cues u a b → Right (arguments_of u) a b k → after ≡ with_rule before (kept u a b k)
        → (r : Terms) × RuleRight (length names) r × (line ≡ Some (rule_line names r)) × (after ≡ with_rule before r)
    of u same below right is =
        let cues : CuesBelow (length names) t a b = rw (same, count) at below in
        let own : Right (arguments_of t) a b k = rw same at right in
        let told : arguments_of t ≡ CueAndCount → k ≡ h.n = λ e. Prim.grind (arith, h.counted e, (own.count e).1) in
        let fields = h.arguments.are ∙ fields_kept (arguments_of t) names h.x h.y a b h.n k h.named told in
        (kept t a b k, ((cues.0, λ e. rw e (cues.1 e)), kept_in_form (arguments_of t) a b k own), h.reads ∙ ap (λ fs. Some (template_word t ∷ fs)) fields, rw same at is)
