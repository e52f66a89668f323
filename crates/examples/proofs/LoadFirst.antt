-- The example table allows a show exactly when before every FLY a LOAD stands earlier.
-- Assumes nothing.
use Rattle.std.proofs.Common.{◌≡◌, ℕ, zero, suc, ◌<◌, [], ◌∷◌, slice_index, ◌↔◌, IsTrue, refl, inr, arith, lit<}
use Rattle.std.proofs.lemmas.Bool.{false≢true}
use Rattle.std.proofs.lemmas.List.Folds.{fold_stays}
use Rattle.machine.specs.Show.{Show, Cued}
use Rattle.machine.specs.Meaning.{Meaning, led_from, allowed}
use Rattle.machine.specs.Table.{Means}
use Rattle.examples.specs.Example.{load_first, LoadFirst}

-- Behind a LOAD every flight is in order; behind a HOLD those that were; and no show that begins with FLY.
after_load : (s : Show) → LoadFirst (0 ∷ s)
after_load s zero h e = absurd (omega arith)
after_load s (suc i) h e = (0, omega arith, refl)

into_hold : (s : Show) → LoadFirst s → LoadFirst (1 ∷ s)
into_hold s f zero h e = absurd (omega arith)
into_hold s f (suc i) h e = let k = f i (omega arith) e in (suc k.0, omega (arith, k.1), k.2)

out_of_hold : (s : Show) → LoadFirst (1 ∷ s) → LoadFirst s
out_of_hold s f i h e = past_hold (f (suc i) (omega arith) e)
  where
    past_hold : (k : ℕ) × (k < suc i) × (slice_index (1 ∷ s) k ≡ 0) → (k : ℕ) × (k < i) × (slice_index s k ≡ 0)
    past_hold (zero, lt, at) = absurd (omega arith)
    past_hold (suc k, lt, at) = (k, omega arith, at)

not_fly : (s : Show) → LoadFirst (2 ∷ s) → ⊥
not_fly s f = omega (arith, (f 0 (omega arith) refl).1)

module _ (m : Meaning) (means : Means m load_first) where
  -- A state that the three cues keep is kept by every show.
  kept : (p : ℕ) → m.steps.next p 0 ≡ p → m.steps.next p 1 ≡ p → m.steps.next p 2 ≡ p → (s : Show) → led_from m.steps p s ≡ p
  kept p load hold fly = fold_stays m.steps.next p stays
    where
      stays : (c : ℕ) → m.steps.next p c ≡ p
      stays zero = load
      stays (suc zero) = hold
      stays (suc (suc zero)) = fly
      stays (suc (suc (suc c))) = means.stays p _ (inr (omega arith))

  loaded : (s : Show) → led_from m.steps 1 s ≡ 1
  loaded = kept 1 (means.next 1 0 (lit< tt) (lit< tt)) (means.next 1 1 (lit< tt) (lit< tt)) (means.next 1 2 (lit< tt) (lit< tt))

  early : (s : Show) → led_from m.steps 2 s ≡ 2
  early = kept 2 (means.next 2 0 (lit< tt) (lit< tt)) (means.next 2 1 (lit< tt) (lit< tt)) (means.next 2 2 (lit< tt) (lit< tt))

  from_start : (s : Show) → Cued 3 s → IsTrue (m.closes (led_from m.steps 0 s)) ↔ LoadFirst s
  from_start [] h = (λ _ i lt. absurd (omega arith), λ _. means.closes 0 (lit< tt))
  from_start (zero ∷ s) h = rw (means.next 0 0 (lit< tt) (lit< tt), loaded s, means.closes 1 (lit< tt)) (λ _. after_load s, λ _. refl)
  from_start (suc zero ∷ s) h =
      let sofar = from_start s h.1 in
      rw (means.next 0 1 (lit< tt) (lit< tt)) (λ e. into_hold s (sofar.0 e), λ f. sofar.1 (out_of_hold s f))
  from_start (suc (suc zero) ∷ s) h = rw (means.next 0 2 (lit< tt) (lit< tt), early s, means.closes 2 (lit< tt)) (λ e. absurd (false≢true e), λ f. absurd (not_fly s f))
  from_start (suc (suc (suc c)) ∷ s) h = absurd (omega (arith, h.0))

  pub load_first_lem : (s : Show) → Cued 3 s → IsTrue (allowed m s) ↔ LoadFirst s
  load_first_lem s h = rw means.start (from_start s h)
