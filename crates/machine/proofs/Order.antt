-- The laws of show order.
-- Assumes nothing.
use Rattle.std.proofs.Common.{◌≡◌, ℕ, zero, suc, ◌<◌, [], ◌∷◌, ◌++◌, length, sym, refl, ap, subst, inl, inr, ⊎_elim, arith, length-append, nat_cmp}
use Rattle.std.specs.Prelude.{slice_index}
use Rattle.std.specs.Ordering.{MatchOrdering, ordering_then}
use Rattle.std.specs.Cmp.{IsTotalOrder}
use Rattle.std.specs.Cmp.Lexicographic.{slice_cmp}
use Rattle.std.specs.declared.cmp.Ordering.TheVariants.{Less, Equal, Greater}
use Rattle.std.specs.declared.cmp.Ordering.{Ordering}
use Rattle.std.proofs.lemmas.List.{places}
use Rattle.std.proofs.lemmas.Bool.{cases_order}
use Rattle.std.proofs.lemmas.Cmp.{ranked, then_total, on_total, nat_cmp_total, nat_list_cmp_total}
use Rattle.machine.specs.Show.{Show, Earlier, Placed, ExactlyOne, ShowOrder}

-- A first difference lies one place further on behind a common first cue.
earlier_behind : (c : ℕ) (s t : Show) → Earlier s t → Earlier (c ∷ s) (c ∷ t)
earlier_behind c s t (inl h) = inl (omega arith)
earlier_behind c s t (inr (e, (i, p))) = inr (omega arith, (suc i, record { inside = omega (arith, p.inside); agree = agree; smaller = p.smaller }))
  where
    agree : (k : ℕ) → k < suc i → slice_index (c ∷ s) k ≡ slice_index (c ∷ t) k
    agree zero h = refl
    agree (suc k) h = p.agree k (omega arith)

-- Shows with different first cues differ there first.
earlier_first : (c d : ℕ) (s t : Show) → length s ≡ length t → c < d → Earlier (c ∷ s) (d ∷ t)
earlier_first c d s t e h = inr (omega arith, (0, record { inside = omega arith; agree = λ k lt. absurd (omega arith); smaller = h }))

-- A common first cue changes no place.
placed_behind : (c : ℕ) (s t : Show) (o : Ordering) → Placed o s t → Placed o (c ∷ s) (c ∷ t)
placed_behind c s t Less h = earlier_behind c s t h
placed_behind c s t Equal e = ap (λ l. c ∷ l) e
placed_behind c s t Greater h = earlier_behind c t s h

-- The first cues place equally long shows, and where these are the same, what stands behind them does.
placed_by_first : (c d : ℕ) (s t : Show) (o : Ordering) → length s ≡ length t → MatchOrdering o (c < d) (c ≡ d) (d < c) → Placed (slice_cmp nat_cmp s t) s t → Placed (ordering_then o (slice_cmp nat_cmp s t)) (c ∷ s) (d ∷ t)
placed_by_first c d s t Less e h rest = earlier_first c d s t e h
placed_by_first c d s t Equal e h rest = subst (λ x. Placed (slice_cmp nat_cmp s t) (c ∷ s) (x ∷ t)) h (placed_behind c s t _ rest)
placed_by_first c d s t Greater e h rest = earlier_first d c t s (sym e) h

-- Equally long shows are placed as slices are.
placed_alike : (s t : Show) → length s ≡ length t → Placed (slice_cmp nat_cmp s t) s t
placed_alike [] [] e = refl
placed_alike [] (d ∷ t) e = absurd (omega arith)
placed_alike (c ∷ s) [] e = absurd (omega arith)
placed_alike (c ∷ s) (d ∷ t) e = placed_by_first c d s t _ (omega arith) (ranked c d _ refl) (placed_alike s t (omega arith))

-- The lengths place two shows, and where these are equal, the cues do.
abbrev pub show_cmp : Show → Show → Ordering
show_cmp s t = ordering_then (nat_cmp (length s) (length t)) (slice_cmp nat_cmp s t)

placed_by_length : (s t : Show) (o : Ordering) → MatchOrdering o (length s < length t) (length s ≡ length t) (length t < length s) → Placed (ordering_then o (slice_cmp nat_cmp s t)) s t
placed_by_length s t Less h = inl h
placed_by_length s t Equal e = placed_alike s t e
placed_by_length s t Greater h = inl h

pub placed : (s t : Show) → Placed (show_cmp s t) s t
placed s t = placed_by_length s t _ (ranked (length s) (length t) _ refl)

-- Earlier, the same and later exclude each other.
irreflexive : (s : Show) → Earlier s s → ⊥
irreflexive s (inl h) = omega arith
irreflexive s (inr (e, (i, p))) = omega (arith, p.smaller)

apart : (s t : Show) → Earlier s t → s ≡ t → ⊥
apart s t h e = irreflexive t (subst (λ x. Earlier x t) e h)

one_way : (s t : Show) → Earlier s t → Earlier t s → ⊥
one_way s t (inl h) (inl k) = omega arith
one_way s t (inl h) (inr (f, _)) = omega arith
one_way s t (inr (e, _)) (inl k) = omega arith
one_way s t (inr (e, (i, p))) (inr (f, (j, q))) = ⊎_elim
    (λ (same : i ≡ j). omega (arith, q.smaller, rw same at p.smaller))
    (⊎_elim (λ lt. omega (arith, p.smaller, q.agree i lt)) (λ lt. omega (arith, q.smaller, p.agree j lt)))
    (cases_order i j)

exactly_one : (s t : Show) (o : Ordering) → Placed o s t → ExactlyOne (Earlier s t) (s ≡ t) (Earlier t s)
exactly_one s t Less h = inl (h, apart s t h, one_way s t h)
exactly_one s t Equal e = inr (inl (λ h. apart s t h e, e, λ h. apart t s h (sym e)))
exactly_one s t Greater h = inr (inr (one_way t s h, λ e. apart t s h (sym e), h))

-- The earlier show is the one that is placed first, so the order of shows is the order of their lengths and then of slices.
less : (s t : Show) (o : Ordering) → Placed o s t → Earlier s t → o ≡ Less
less s t Less p h = refl
less s t Equal e h = absurd (apart s t h e)
less s t Greater p h = absurd (one_way s t h p)

show_cmp_total : IsTotalOrder show_cmp
show_cmp_total = then_total (on_total length nat_cmp_total) nat_list_cmp_total

transitive : (s t u : Show) → Earlier s t → Earlier t u → Earlier s u
transitive s t u h k =
    let first = show_cmp_total.trans s t u (less s t _ (placed s t) h) (less t u _ (placed t u) k) in
    subst (λ o. Placed o s u) first (placed s u)

-- A first difference stays where it is when a cue is added behind both shows.
appending : (s t : Show) (c d : ℕ) → Earlier s t → Earlier (s ++ c ∷ []) (t ++ d ∷ [])
appending s t c d (inl h) = inl (simp length-append (omega arith))
appending s t c d (inr (e, (i, p))) = inr (
  simp length-append (omega arith),
  (
    i,
    record {
      inside = simp length-append (omega (arith, p.inside));
      agree = λ k h. grind (arith, places, p.inside, p.agree k h);
      smaller = grind (arith, places, p.inside, p.smaller);
    },
  ),
)

branching : (s : Show) (c d : ℕ) → c < d → Earlier (s ++ c ∷ []) (s ++ d ∷ [])
branching s c d h = inr (
  simp length-append,
  (
    length s,
    record {
      inside = simp length-append (omega arith);
      agree = λ k lt. grind (arith, places);
      smaller = grind (arith, places);
    },
  ),
)

pub show_order_lem : ShowOrder
show_order_lem = record { irreflexive = irreflexive; transitive = transitive; total = λ s t. exactly_one s t _ (placed s t); appending = appending; branching = branching }
