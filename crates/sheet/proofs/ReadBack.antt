-- Laws of lines: what is read of a line as it was written, and what is behind it.
-- Assumes nothing.
use Rattle.std.proofs.Common.{◌≡◌, ℕ, ◌+◌, ◌<◌, ◌≤◌, ◌^◌, ◌%◌, false, eqb, List, [], ◌∷◌, ◌++◌, length, Some, refl, ap, ◌∙◌, append_assoc, arith}
use Rattle.std.proofs.lemmas.Fmt.{decimal_by_steps}
use Rattle.std.proofs.lemmas.List.Elements.{All-nil, All-cons, All-head, All-tail, All-append, All-push, All-weaker}
use Rattle.std.proofs.lemmas.List.Splits.{slice_split_none, slice_split_at, length-slice_split}
use Rattle.std.specs.List.{All, join_with_byte}
use Rattle.std.specs.Prelude.{decimal, option_map, if◌then◌else◌}
use Rattle.sheet.specs.Fault.{line_of}
use Rattle.sheet.specs.Text.{Text, NameForm, WordForm, InName, InWord, line_end, space, leading, parts, fields, written_line}

-- A text is solid when all its bytes are above the space, and so above the line end too; it is without a byte when none is that.
abbrev pub Solid : Text → Type 0
Solid x = All (λ b. space < b) x

abbrev Without : ℕ → Text → Type 0
Without byte x = All (λ b. eqb b byte ≡ false) x

without : (byte : ℕ) → byte ≤ space → (f : Text) (fs : List Text) → All Solid (f ∷ fs) → Without byte f
without byte le f fs h = All-weaker (λ b. space < b) (λ b. eqb b byte ≡ false) (λ b lt. grind arith) f (All-head Solid f fs h)

-- Solid texts, joined by spaces, are read as the fields that they are, and hold no line end.
fields_joined : (f : Text) (fs : List Text) → All Solid (f ∷ fs) → fields (join_with_byte space (f ∷ fs)) ≡ f ∷ fs
fields_joined f [] h = slice_split_none _ f (without space (omega arith) f [] h)
fields_joined f (g ∷ fs) h = slice_split_at _ f space _ (without space (omega arith) f (g ∷ fs) h) refl ∙ ap (λ l. f ∷ l) (fields_joined g fs (All-tail Solid f (g ∷ fs) h))

one_line : (f : Text) (fs : List Text) → All Solid (f ∷ fs) → Without line_end (join_with_byte space (f ∷ fs))
one_line f [] h = without line_end (omega arith) f [] h
one_line f (g ∷ fs) h =
    All-append (λ b. eqb b line_end ≡ false) f (space ∷ join_with_byte space (g ∷ fs)) (without line_end (omega arith) f (g ∷ fs) h)
    (All-cons (λ b. eqb b line_end ≡ false) space _ refl (one_line g fs (All-tail Solid f (g ∷ fs) h)))

-- What stands before others is the first line.
pub leading_first : (x : Text) (more : List Text) → 1 ≤ length more → leading (x ∷ more) ≡ Some x
leading_first x [] h = absurd (omega arith)
leading_first x (y ∷ more) h = refl

-- What is behind the first line end.
abbrev pub behind : Text → Text
behind [] = []
behind (b ∷ x) = if eqb b line_end then x else behind x

behind_end : (x rest : Text) → Without line_end x → behind (x ++ line_end ∷ rest) ≡ rest
behind_end [] rest h = refl
behind_end (b ∷ x) rest h = rw (All-head (λ b. eqb b line_end ≡ false) b x h) (behind_end x rest (All-tail (λ b. eqb b line_end ≡ false) b x h))

-- A line of solid fields is read as it was written, and what follows it is behind it.
pub line_read : (f : Text) (fs : List Text) (rest : Text) → All Solid (f ∷ fs) → line_of (written_line (f ∷ fs) ++ rest) ≡ Some (f ∷ fs)
line_read f fs rest h =
    let x : Text = join_with_byte space (f ∷ fs) in
    ap (λ t. option_map fields (leading (parts line_end t))) (append_assoc x (line_end ∷ []) rest)
    ∙ ap (λ l. option_map fields (leading l)) (slice_split_at (λ b. eqb b line_end) x line_end rest (one_line f fs h) refl)
    ∙ ap (option_map fields) (leading_first x _ (omega (arith, length-slice_split (λ b. eqb b line_end) rest)))
    ∙ ap Some (fields_joined f fs h)

pub line_behind : (f : Text) (fs : List Text) (rest : Text) → All Solid (f ∷ fs) → behind (written_line (f ∷ fs) ++ rest) ≡ rest
line_behind f fs rest h = rw (append_assoc (join_with_byte space (f ∷ fs)) (line_end ∷ []) rest) (behind_end (join_with_byte space (f ∷ fs)) rest (one_line f fs h))

-- Names, words and counts are solid.
pub name_solid : (x : Text) → NameForm x → Solid x
name_solid x h = All-weaker InName (λ b. space < b) (λ b l. grind arith) x h.bytes

pub word_solid : (x : Text) → WordForm x → Solid x
word_solid x h = All-weaker InWord (λ b. space < b) (λ b l. grind arith) x h.bytes

pub count_solid : (n : ℕ) → n < 2 ^ 64 → Solid (decimal n)
count_solid = decimal_by_steps (λ n ds. Solid ds)
    (λ n h. All-cons (λ b. space < b) (48 + n) [] (omega arith) (All-nil _))
    (λ n ds h solid. All-push (λ b. space < b) ds (48 + n % 10) solid (omega arith))
