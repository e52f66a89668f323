-- What the laws of show order come to.
-- Assumes nothing.
use Rattle.std.proofs.Common.{◌≡◌, ℕ, ◌<◌, [], ◌∷◌, ◌++◌, inl, inr, ap, subst, refl, nat_cmp}
use Rattle.std.specs.Ordering.{MatchOrdering, ordering_then}
use Rattle.std.specs.declared.cmp.Ordering.TheVariants.{Less, Equal, Greater}
use Rattle.std.specs.declared.cmp.Ordering.{Ordering}
use Rattle.std.proofs.lemmas.Cmp.{ranked}
use Rattle.machine.specs.Show.{Show, Earlier, Placed, ExactlyOne, ShowOrder}

module _ (order : ShowOrder) where
  -- A show that is not earlier than a second one, which is not earlier than a third, is not earlier than the third.
  pub behind_no_earlier : (s r t : Show) → (Earlier s r → ⊥) → (Earlier r t → ⊥) → Earlier s t → ⊥
  behind_no_earlier s r t h k e = split (order.total s r)
    where
      split : ExactlyOne (Earlier s r) (s ≡ r) (Earlier r s) → ⊥
      split (inl only) = h only.0
      split (inr (inl only)) = k (subst (λ x. Earlier x t) only.1 e)
      split (inr (inr only)) = k (order.transitive r s t only.2 e)

  -- Of one and the same show the smaller cue comes first.
  one_more_on_same : (s : Show) (c d : ℕ) (o : Ordering) → MatchOrdering o (c < d) (c ≡ d) (d < c) → Placed o (s ++ c ∷ []) (s ++ d ∷ [])
  one_more_on_same s c d Less h = order.branching s c d h
  one_more_on_same s c d Equal e = ap (λ x. s ++ x ∷ []) e
  one_more_on_same s c d Greater h = order.branching s d c h

  -- Of two shows with one more cue each.
  pub with_one_more : (s t : Show) (c d : ℕ) (o : Ordering) → Placed o s t → Placed (ordering_then o (nat_cmp c d)) (s ++ c ∷ []) (t ++ d ∷ [])
  with_one_more s t c d Less h = order.appending s t c d h
  with_one_more s t c d Equal e = subst (λ x. Placed (nat_cmp c d) (s ++ c ∷ []) (x ++ d ∷ [])) e (one_more_on_same s c d _ (ranked c d _ refl))
  with_one_more s t c d Greater h = order.appending t s d c h
