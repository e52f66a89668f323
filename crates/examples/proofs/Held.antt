-- The tables on which a HOLD is due after a LOAD allow just the shows of their rules.
-- Assumes nothing.
use Rattle.std.proofs.Common.{◌≡◌, ℕ, zero, suc, ◌<◌, [], ◌∷◌, length, slice_index, ◌↔◌, IsTrue, refl, inr, arith, lit<}
use Rattle.std.proofs.lemmas.Bool.{false≢true}
use Rattle.std.proofs.lemmas.List.Folds.{fold_stays}
use Rattle.machine.specs.Show.{Show, Cued}
use Rattle.machine.specs.Meaning.{Meaning, led_from, allowed}
use Rattle.machine.specs.Table.{Means}
use Rattle.examples.specs.Example.{hold_later, hold_directly, HoldLater, HoldDirectly}

-- A HOLD stands in the show; it stands first.
abbrev Held : Show → Type 0
Held s = (k : ℕ) × (k < length s) × (slice_index s k ≡ 1)

abbrev HeldFirst : Show → Type 0
HeldFirst s = (0 < length s) × (slice_index s 0 ≡ 1)

-- One cue more in front: if it is a LOAD, a HOLD is due in the rest; and what was asked of the rest is asked.
later_more : (c : ℕ) (s : Show) → (c ≡ 0 → Held s) → HoldLater s → HoldLater (c ∷ s)
later_more c s due h zero lt e = let k = due e in (suc k.0, omega arith, omega (arith, k.1), k.2)
later_more c s due h (suc i) lt e = let k = h i (omega (arith, lt)) e in (suc k.0, omega (arith, k.1), omega (arith, k.2), k.3)

later_rest : (c : ℕ) (s : Show) → HoldLater (c ∷ s) → HoldLater s
later_rest c s h i lt e = past (h (suc i) (omega (arith, lt)) e)
  where
    past : (k : ℕ) × (suc i < k) × (k < suc (length s)) × (slice_index (c ∷ s) k ≡ 1) → (k : ℕ) × (i < k) × (k < length s) × (slice_index s k ≡ 1)
    past (zero, late, inside, at) = absurd (omega (arith, late))
    past (suc k, late, inside, at) = (k, omega (arith, late), omega (arith, inside), at)

later_due : (s : Show) → HoldLater (0 ∷ s) → Held s
later_due s h = past (h 0 (omega arith) refl)
  where
    past : (k : ℕ) × (0 < k) × (k < suc (length s)) × (slice_index (0 ∷ s) k ≡ 1) → Held s
    past (zero, late, inside, at) = absurd (omega (arith, late))
    past (suc k, late, inside, at) = (k, omega (arith, inside), at)

-- A HOLD stands behind a cue exactly when the cue is one or it stood already.
held_more : (c : ℕ) (s : Show) → Held s → Held (c ∷ s)
held_more c s k = (suc k.0, omega (arith, k.1), k.2)

held_now : (s : Show) → Held (1 ∷ s)
held_now s = (0, omega arith, refl)

held_rest : (c : ℕ) (s : Show) → (c ≡ 1 → ⊥) → Held (c ∷ s) → Held s
held_rest c s other (zero, inside, at) = absurd (other at)
held_rest c s other (suc k, inside, at) = (k, omega (arith, inside), at)

directly_more : (c : ℕ) (s : Show) → (c ≡ 0 → HeldFirst s) → HoldDirectly s → HoldDirectly (c ∷ s)
directly_more c s due h zero lt e = let k = due e in (omega (arith, k.0), k.1)
directly_more c s due h (suc i) lt e = let k = h i (omega (arith, lt)) e in (omega (arith, k.0), k.1)

directly_rest : (c : ℕ) (s : Show) → HoldDirectly (c ∷ s) → HoldDirectly s
directly_rest c s h i lt e = let k = h (suc i) (omega (arith, lt)) e in (omega (arith, k.0), k.1)

directly_due : (s : Show) → HoldDirectly (0 ∷ s) → HeldFirst s
directly_due s h = let k = h 0 (omega arith) refl in (omega (arith, k.0), k.1)

module _ (m : Meaning) (means : Means m hold_later) where
  open_later : (s : Show) → Cued 3 s → (IsTrue (m.closes (led_from m.steps 0 s)) ↔ HoldLater s) × (IsTrue (m.closes (led_from m.steps 1 s)) ↔ (Held s × HoldLater s))
  open_later [] h = (
    (λ _ i lt. absurd (omega arith), λ _. means.closes 0 (lit< tt)),
    (λ e. absurd (false≢true (rw (← means.closes 1 (lit< tt)) e)), λ k. absurd (omega (arith, k.0.1))),
  )
  open_later (zero ∷ s) h =
      let sofar = open_later s h.1 in (
        rw (means.next 0 0 (lit< tt) (lit< tt)) (λ e. let k = sofar.1.0 e in later_more 0 s (λ _. k.0) k.1, λ f. sofar.1.1 (later_due s f, later_rest 0 s f)),
        rw (means.next 1 0 (lit< tt) (lit< tt)) (λ e. let k = sofar.1.0 e in (held_more 0 s k.0, later_more 0 s (λ _. k.0) k.1), λ f. sofar.1.1 (later_due s f.1, later_rest 0 s f.1)),
      )
  open_later (suc zero ∷ s) h =
      let sofar = open_later s h.1 in (
        rw (means.next 0 1 (lit< tt) (lit< tt)) (λ e. later_more 1 s (λ d. absurd (omega (arith, d))) (sofar.0.0 e), λ f. sofar.0.1 (later_rest 1 s f)),
        rw (means.next 1 1 (lit< tt) (lit< tt)) (λ e. (held_now s, later_more 1 s (λ d. absurd (omega (arith, d))) (sofar.0.0 e)), λ f. sofar.0.1 (later_rest 1 s f.1)),
      )
  open_later (suc (suc zero) ∷ s) h =
      let sofar = open_later s h.1 in (
        rw (means.next 0 2 (lit< tt) (lit< tt)) (λ e. later_more 2 s (λ d. absurd (omega (arith, d))) (sofar.0.0 e), λ f. sofar.0.1 (later_rest 2 s f)),
        rw (means.next 1 2 (lit< tt) (lit< tt)) (λ e. let k = sofar.1.0 e in (held_more 2 s k.0, later_more 2 s (λ d. absurd (omega (arith, d))) k.1), λ f. sofar.1.1 (held_rest 2 s (λ d. omega (arith, d)) f.0, later_rest 2 s f.1)),
      )
  open_later (suc (suc (suc c)) ∷ s) h = absurd (omega (arith, h.0))

  pub hold_later_lem : (s : Show) → Cued 3 s → IsTrue (allowed m s) ↔ HoldLater s
  hold_later_lem s h = rw means.start ((open_later s h).0)

module _ (m : Meaning) (means : Means m hold_directly) where
  missed : (s : Show) → led_from m.steps 2 s ≡ 2
  missed = fold_stays m.steps.next 2 stays
    where
      stays : (c : ℕ) → m.steps.next 2 c ≡ 2
      stays zero = means.next 2 0 (lit< tt) (lit< tt)
      stays (suc zero) = means.next 2 1 (lit< tt) (lit< tt)
      stays (suc (suc zero)) = means.next 2 2 (lit< tt) (lit< tt)
      stays (suc (suc (suc c))) = means.stays 2 _ (inr (omega arith))

  open_directly : (s : Show) → Cued 3 s → (IsTrue (m.closes (led_from m.steps 0 s)) ↔ HoldDirectly s) × (IsTrue (m.closes (led_from m.steps 1 s)) ↔ (HeldFirst s × HoldDirectly s))
  open_directly [] h = (
    (λ _ i lt. absurd (omega arith), λ _. means.closes 0 (lit< tt)),
    (λ e. absurd (false≢true (rw (← means.closes 1 (lit< tt)) e)), λ k. absurd (omega (arith, k.0.0))),
  )
  open_directly (zero ∷ s) h =
      let sofar = open_directly s h.1 in (
        rw (means.next 0 0 (lit< tt) (lit< tt)) (λ e. let k = sofar.1.0 e in directly_more 0 s (λ _. k.0) k.1, λ f. sofar.1.1 (directly_due s f, directly_rest 0 s f)),
        rw (means.next 1 0 (lit< tt) (lit< tt), missed s, means.closes 2 (lit< tt)) (λ e. absurd (false≢true e), λ f. absurd (omega (arith, f.0.1))),
      )
  open_directly (suc zero ∷ s) h =
      let sofar = open_directly s h.1 in (
        rw (means.next 0 1 (lit< tt) (lit< tt)) (λ e. directly_more 1 s (λ d. absurd (omega (arith, d))) (sofar.0.0 e), λ f. sofar.0.1 (directly_rest 1 s f)),
        rw (means.next 1 1 (lit< tt) (lit< tt)) (λ e. ((omega arith, refl), directly_more 1 s (λ d. absurd (omega (arith, d))) (sofar.0.0 e)), λ f. sofar.0.1 (directly_rest 1 s f.1)),
      )
  open_directly (suc (suc zero) ∷ s) h =
      let sofar = open_directly s h.1 in (
        rw (means.next 0 2 (lit< tt) (lit< tt)) (λ e. directly_more 2 s (λ d. absurd (omega (arith, d))) (sofar.0.0 e), λ f. sofar.0.1 (directly_rest 2 s f)),
        rw (means.next 1 2 (lit< tt) (lit< tt), missed s, means.closes 2 (lit< tt)) (λ e. absurd (false≢true e), λ f. absurd (omega (arith, f.0.1))),
      )
  open_directly (suc (suc (suc c)) ∷ s) h = absurd (omega (arith, h.0))

  pub hold_directly_lem : (s : Show) → Cued 3 s → IsTrue (allowed m s) ↔ HoldDirectly s
  hold_directly_lem s h = rw means.start ((open_directly s h).0)
