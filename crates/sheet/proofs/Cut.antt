-- Cutting a text at the first byte of a kind.
-- Assumes nothing.
use Rattle.std.proofs.Common.{◌≡◌, ℕ, ◌+◌, ◌<◌, ◌≤◌, List, [], ◌∷◌, ◌++◌, length, take, drop, eqb, position, Some, None, sym, refl, ap, ◌∙◌, ◌-◌, arith}
use Rattle.std.specs.List.{position_or_len, join_with_byte}
use Rattle.std.proofs.lemmas.List.{take_all, length-drop, length-take-le}
use Rattle.std.proofs.lemmas.List.Sums.{fails_before_first}
use Rattle.std.proofs.lemmas.List.Splits.{slice_split_first, slice_split_none, length-slice_split, join_with_byte-slice_split}
use Rattle.sheet.specs.Text.{Text, parts}

-- Where there is no byte of the kind, the text is the one part.
pub uncut : (byte : ℕ) (x : Text) → position (λ b. eqb b byte) x ≡ None → parts byte x ≡ x ∷ []
uncut byte x e = slice_split_none _ x (λ k d low. Prim.grind (arith, e, fails_before_first (λ b. eqb b byte) x k d))

-- There is a part, and a part before those of a text, joined to them, stands before the text with the byte between.
pub some_part : (byte : ℕ) (x : Text) → 1 ≤ length (parts byte x)
some_part byte x = omega (arith, length-slice_split (λ b. eqb b byte) x)

pub one_before : (byte : ℕ) (x y : Text) → join_with_byte byte (y ∷ parts byte x) ≡ y ++ byte ∷ x
one_before byte x y = joined (parts byte x) (some_part byte x) ∙ ap (λ z. y ++ byte ∷ z) (join_with_byte-slice_split byte x)
  where
    joined : (ps : List Text) → 1 ≤ length ps → join_with_byte byte (y ∷ ps) ≡ y ++ byte ∷ join_with_byte byte ps
    joined [] some = absurd (omega arith)
    joined (p ∷ ps) some = refl

-- The first part ends at the first byte of the kind. What stands behind is the rest of the text.
pub cut_at : (byte : ℕ) (x : Text) (i : ℕ) → position (λ b. eqb b byte) x ≡ Some i → let rest = take (length x - (i + 1)) (drop (i + 1) x) in
    (length (take i x) ≡ i) × (parts byte x ≡ take i x ∷ parts byte rest) × (x ≡ take i x ++ byte ∷ rest)
cut_at byte x i e =
    let is : position_or_len (λ b. eqb b byte) x ≡ i = Prim.grind (arith, e) in
    let low : i < length x = Prim.grind (arith, e) in
    let first : parts byte x ≡ take i x ∷ parts byte (drop (i + 1) x) = rw is at (slice_split_first (λ b. eqb b byte) x 0 (omega (arith, is, low))) in
    let rest : drop (i + 1) x ≡ take (length x - (i + 1)) (drop (i + 1) x) = sym (take_all _ _ (omega (arith, length-drop (i + 1) x))) in
    let apart = first ∙ ap (λ y. take i x ∷ parts byte y) rest in
    (length-take-le i x (omega (arith, low)), apart, sym (join_with_byte-slice_split byte x) ∙ ap (join_with_byte byte) apart ∙ one_before byte _ (take i x))
