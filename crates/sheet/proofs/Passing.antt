-- Going past a line.
-- Assumes nothing.
use Rattle.std.proofs.Common.{◌≡◌, ℕ, ◌+◌, ◌-◌, ◌≤◌, length-append, [], ◌∷◌, ◌++◌, length, take, drop, Some, None, sym, ap, ◌∙◌, arith}
use Rattle.std.proofs.lemmas.List.{append-nil, take_all, length-drop}
use Rattle.std.proofs.lemmas.List.Splits.{join_with_byte-slice_split}
use Rattle.std.proofs.Math.Seq.{take-add, take-append-add}
use Rattle.std.specs.Prelude.{flat_map, option_map}
use Rattle.sheet.specs.Fault.{line_of}
use Rattle.sheet.specs.Text.{Text, leading, parts, fields, line_end, space, written_line}
use Rattle.sheet.proofs.Cut.{some_part}
use Rattle.sheet.proofs.ReadBack.{leading_first}

-- Where a part ends at a line end, it is the line that stands first; where none does, there is no line.
pub next_line : (x y z : Text) → parts line_end x ≡ y ∷ parts line_end z → line_of x ≡ Some (fields y)
next_line x y z e = ap (λ ps. option_map fields (leading ps)) e ∙ ap (option_map fields) (leading_first y (parts line_end z) (some_part line_end z))

pub no_line : (x : Text) → parts line_end x ≡ x ∷ [] → line_of x ≡ None
no_line x e = ap (λ ps. option_map fields (leading ps)) e

-- What is left of a sheet is all of it from there on, and a line that stands first in it does not go beyond the sheet.
pub all_left : (sheet : Text) (at : ℕ) → take (length sheet - at) (drop at sheet) ≡ drop at sheet
all_left sheet at = take_all _ _ (omega (arith, length-drop at sheet))

pub within : (sheet : Text) (at : ℕ) (y z : Text) → at ≤ length sheet → drop at sheet ≡ y ++ line_end ∷ z → at + length y + 1 ≤ length sheet
within sheet at y z low e = omega (arith, low, sym (length-drop at sheet) ∙ ap length e ∙ length-append y (line_end ∷ z))

-- What is read then is what was read before and the line as it is written.
pub past_line : (sheet : Text) (at : ℕ) (y z : Text) → drop at sheet ≡ y ++ line_end ∷ z → take (at + length y + 1) sheet ≡ take at sheet ++ flat_map written_line (fields y ∷ [])
past_line sheet at y z e =
    ap (λ n. take n sheet) (omega arith) ∙ take-add at (length y + 1) sheet
    ∙ ap (λ x. take at sheet ++ x) (ap (take (length y + 1)) e ∙ take-append-add y (line_end ∷ z) 1 ∙ ap (λ x. x ++ line_end ∷ []) (sym (join_with_byte-slice_split space y)) ∙ sym (append-nil _))
