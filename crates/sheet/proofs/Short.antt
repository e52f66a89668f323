-- No sheet that is in order is too long.
-- Assumes nothing.
use Rattle.std.proofs.Common.{◌≡◌, ℕ, ◌+◌, ◌*◌, ◌<◌, ◌≤◌, leb, IsTrue, List, [], ◌∷◌, ◌++◌, length, length-append, map, refl, ap, arith}
use Rattle.std.proofs.lemmas.Bool.Decides.{nat_tests}
use Rattle.std.proofs.lemmas.Fmt.{length-decimal-le}
use Rattle.std.proofs.lemmas.List.Concat.{flat_map-append, flat_map-cons, length-flat_map}
use Rattle.std.proofs.lemmas.List.Elements.{All-weaker}
use Rattle.std.proofs.lemmas.List.Folds.{flat_map-map}
use Rattle.std.proofs.lemmas.List.Sums.{sum_by-le}
use Rattle.std.specs.List.{All, join_with_byte}
use Rattle.std.specs.Prelude.{flat_map, decimal}
use Rattle.rules.specs.declared.templates.Arguments.{Arguments}
use Rattle.rules.specs.declared.templates.Arguments.TheVariants.{CueAndCount, OneCue, TwoCues}
use Rattle.rules.specs.declared.templates.Template.{Template}
use Rattle.rules.specs.Naming.{template_word}
use Rattle.rules.specs.Rule.{Terms}
use Rattle.rules.proofs.Every.{template_passes}
use Rattle.sheet.specs.Fault.{IsArguments}
use Rattle.sheet.specs.Reading.{NoneIsLonger}
use Rattle.sheet.specs.Sheet.{Comparison, written, whole, InOrder, NamesInOrder, RulesInOrder, RuleRight, cues_word, left_word, right_word, cues_lines, book_lines, section_line, name_line, rule_line}
use Rattle.sheet.specs.Text.{Text, NameForm, space, line_end, written_line}
use Rattle.sheet.proofs.Judging.{rule_arguments}

-- A line of one field has a byte more than the field; a field before others adds its bytes and one more.
one_field : (x : Text) → length (written_line (x ∷ [])) ≡ length x + 1
one_field x = length-append x (line_end ∷ [])

field_before : (x y : Text) (fs : List Text) → length (written_line (x ∷ y ∷ fs)) ≡ length x + 1 + length (written_line (y ∷ fs))
field_before x y fs =
    let rest : Text = join_with_byte space (y ∷ fs) in
    omega (arith, length-append (x ++ space ∷ rest) (line_end ∷ []), length-append x (space ∷ rest), length-append rest (line_end ∷ []))

-- The line of a name in form has at most 17 bytes.
name_short : (x : Text) → NameForm x → length (written_line (name_line x)) ≤ 17
name_short x h = omega (arith, h.short, one_field x)

-- Every template's word has at most 20 bytes.
word_short : (t : Template) → length (template_word t) ≤ 20
word_short t =
    let passed : IsTrue (leb (length (template_word t)) 20) = template_passes (λ t. leb (length (template_word t)) 20) refl t in
    grind (arith, nat_tests)

-- A word and its arguments make a line of at most 35 bytes more than the word.
arguments_short : (taken : Arguments) (word : Text) (fs : List Text) (x y : Text) (n : ℕ) → IsArguments taken fs x y n → length (written_line (word ∷ fs)) ≤ length word + 35
arguments_short CueAndCount word fs x y n h =
    rw h.are (omega (arith, field_before word x (decimal n ∷ []), field_before x (decimal n) [], one_field (decimal n), h.first.short, length-decimal-le 3 n (omega arith) (omega (arith, h.count)) (omega (arith, h.count))))
arguments_short OneCue word fs x y n h = rw h.are (omega (arith, field_before word x [], one_field x, h.first.short))
arguments_short TwoCues word fs x y n h =
    let second : NameForm y = h.second refl in
    rw h.are (omega (arith, field_before word x (y ∷ []), field_before x y [], one_field y, h.first.short, second.short))

-- The line of a right rule has at most 55 bytes.
rule_short : (names : List Text) → All NameForm names → (r : Terms) → RuleRight (length names) r → length (written_line (rule_line names r)) ≤ 55
rule_short names forms r right = omega (arith, arguments_short _ (template_word r.template) _ _ _ _ (rule_arguments names forms r right), word_short r.template)

-- The line of a section has at most 4 bytes more than its word.
section_line_short : (word : Text) (n : ℕ) → n < 100 → length (written_line (section_line word n)) ≤ length word + 4
section_line_short word n low = omega (arith, field_before word (decimal n) [], one_field (decimal n), length-decimal-le 2 n (omega arith) (omega arith) (omega arith))

-- Lines of at most so many bytes each have at most as many times that as they are.
lines_short : {X : Type 0} (size : ℕ) (line : X → List Text) (all : List X) → All (λ x. length (written_line (line x)) ≤ size) all → length (flat_map written_line (map line all)) ≤ length all * size
lines_short size line all h =
    rw (flat_map-map written_line line all, length-flat_map (λ x. written_line (line x)) all) (sum_by-le (λ x. length (written_line (line x))) size all h)

-- A section has at most the bytes of its line and of those of its items.
section_short : {X : Type 0} (word : Text) (n size : ℕ) (line : X → List Text) (all : List X) → n < 100 → All (λ x. length (written_line (line x)) ≤ size) all
    → length (flat_map written_line (section_line word n ∷ map line all)) ≤ length word + 4 + length all * size
section_short word n size line all low h =
    rw (flat_map-cons written_line (section_line word n) (map line all), length-append) (omega (arith, section_line_short word n low, lines_short size line all h))

-- The section of names has at most 552 bytes.
names_short : (names : List Text) → NamesInOrder (length names) names → length (flat_map written_line (cues_lines (length names) names)) ≤ 552
names_short names h =
    omega (arith, h.few, section_short cues_word (length names) 17 name_line names (omega (arith, h.few)) (All-weaker NameForm (λ x. length (written_line (name_line x)) ≤ 17) name_short names h.forms))

-- The section of a book has at most 884 bytes and those of its word.
book_short : (word : Text) (names : List Text) (n : ℕ) (rules : List Terms) → All NameForm names → RulesInOrder names n rules → length (flat_map written_line (book_lines word names n rules)) ≤ length word + 884
book_short word names n rules forms h =
    omega (arith, h.few, h.room, section_short word n 55 (rule_line names) rules (omega (arith, h.few)) (All-weaker (RuleRight (length names)) (λ r. length (written_line (rule_line names r)) ≤ 55) (rule_short names forms) rules h.right))

-- Lines, and others behind them, have at most as many bytes as the ones and the others have at most.
together : (ls ms : List (List Text)) (a b : ℕ) → length (flat_map written_line ls) ≤ a → length (flat_map written_line ms) ≤ b → length (flat_map written_line (ls ++ ms)) ≤ a + b
together ls ms a b h k = omega (arith, ap length (flat_map-append written_line ls ms), length-append (flat_map written_line ls) (flat_map written_line ms))

-- A sheet in order has at most 2329 bytes.
pub short : (s : Comparison) → InOrder (whole s) → length (written s) ≤ 2329
short s h =
    let cues : List (List Text) = cues_lines (length s.names) s.names in
    let left : List (List Text) = book_lines left_word s.names (length s.left) s.left in
    let right : List (List Text) = book_lines right_word s.names (length s.right) s.right in
    together (cues ++ left) right 1440 889 (together cues left 552 888 (names_short s.names h.0) (book_short left_word s.names _ s.left h.0.forms h.1))
    (book_short right_word s.names _ s.right h.0.forms h.2)

pub none_is_longer : NoneIsLonger
unfolding NoneIsLonger
none_is_longer s h = short s h
