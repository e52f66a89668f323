-- Induction on a list's last element.
-- Assumes nothing.
use Rattle.std.proofs.Common.{List, [], ◌∷◌, ◌++◌}
use Rattle.std.proofs.lemmas.List.{append-nil, append_assoc}

-- What holds of the empty list, and passes from a list to that list with one more element, holds of every list.
pub by_last : {X : Type 0} (P : List X → Type 0) → P [] → ((xs : List X) (x : X) → P xs → P (xs ++ x ∷ [])) → (ys : List X) → P ys
by_last {X} P none more ys = from [] ys none
  where
    from : (xs ys : List X) → P xs → P (xs ++ ys)
    from xs [] p = rw append-nil p
    from xs (y ∷ ys) p = rw append_assoc at (from (xs ++ y ∷ []) ys (more xs y p))
