-- What was read stands at the front of the buffer.
-- Assumes nothing.
use Rattle.std.proofs.Common.{◌≡◌, ℕ, ◌+◌, ◌≤◌, List, ◌++◌, length, take, sym, ap, ◌∙◌, length-take-le, le_refl}
use Rattle.std.proofs.KnownBytes.{Consumes-trans, Consumes-kept}
use Rattle.std.proofs.Math.Seq.{take-append-add}
use Rattle.std.proofs.lemmas.List.{take-append-le}
use Rattle.std.proofs.lemmas.Slice.{take-put_mid_below}
use Rattle.std.specs.Io.KnownBytes.{Consumes, Keeps}
use Rattle.std.specs.declared.option.Option.{Option}
use borrow.Rule.Slice.PartMut.{put_mid, post_of}

-- More was read into the part that begins at place a, and stands behind what stood before it.
behind : (a k n : ℕ) (xs ys : List ℕ) → a ≤ length xs → n ≤ length ys → take (a + n) (put_mid a k xs ys) ≡ take a xs ++ take n ys
behind a k n xs ys here fits =
    ap (λ m. take (m + n) (put_mid a k xs ys)) (sym (length-take-le a xs here))
    ∙ take-append-add (take a xs) (ys ++ post_of a k xs) n
    ∙ ap (λ l. take a xs ++ l) (take-append-le n ys (post_of a k xs) fits)

module _ (first before after : Option (List ℕ)) (a k : ℕ) (xs ys : List ℕ) (here : a ≤ length xs) (so_far : Consumes first before (take a xs)) where
  pub more_read : (n : ℕ) → n ≤ length ys → Consumes before after (take n ys) → Consumes first after (take (a + n) (put_mid a k xs ys))
  more_read n fits read = rw (behind a k n xs ys here fits) (Consumes-trans first before after _ _ so_far read)

  pub none_read : Keeps before after → Consumes first after (take a (put_mid a k xs ys))
  none_read kept = rw (take-put_mid_below a k xs ys a (le_refl a) here) (Consumes-kept first before after _ so_far kept)
