-- What comparing two machines finds is just what the verdict and the show told say.
-- Assumes nothing.
use Rattle.std.proofs.Common.{◌≡◌, ℕ, ◌≤◌, ◌⊎◌, List, ◌++◌, length, take, drop, Ok, Err, IfOk, Result, inl, inr, sym, ap, subst, arith}
use Rattle.std.specs.Result.{result_unwrap_or}
use Rattle.std.proofs.Math.Seq.{take-append_seam}
use Rattle.machine.specs.Show.{Show}
use Rattle.machine.specs.Meaning.{Meaning}
use Rattle.machine.specs.Watch.{standing, begun, started_at, watch_meaning}
use Rattle.machine.specs.declared.watches.Watch.{Watch}
use Rattle.search.specs.declared.states.Verdict.{Verdict}
use Rattle.search.specs.declared.states.Verdict.TheVariants as verdict
use Rattle.search.specs.declared.states.ShowRefusal.{ShowRefusal}
use Rattle.search.specs.Calls.{Written}
use Rattle.search.specs.Runs.{Shown, ShowTold}
use Rattle.search.specs.Truth.{TrueVerdict, FirstDifference}
use Rattle.bench.specs.declared.cells.TheConstants.{LIMIT}
use Rattle.comparison.specs.declared.outcomes.Finding.{Finding}
use Rattle.comparison.specs.declared.outcomes.Finding.TheVariants.{Equal, Left, Right, Full}
use Rattle.comparison.specs.Finding.{MachinesFinding, IfShown, verdict_of}

-- A watch without cues means the machine below.
uncued : {M : Type 0} (meaning : M → Meaning) (w : Watch M) (x : M) → standing w ≡ begun meaning x → watch_meaning meaning w ≡ meaning x
uncued meaning w x e = ap (λ st. started_at (meaning st.machine) st.position) e

-- So what two such watches come to is what the machines below come to.
module _ {L R : Type 0} (lefts : L → Meaning) (rights : R → Meaning) (v : Watch L) (w : Watch R) (x : L) (y : R) (e : standing v ≡ begun lefts x) (f : standing w ≡ begun rights y) where
  pub of_watches : (P : Meaning → Meaning → Type 0) → P (watch_meaning lefts v) (watch_meaning rights w) → P (lefts x) (rights y)
  of_watches P p = subst (λ l. P l (rights y)) (uncued lefts v x e) (subst (P (watch_meaning lefts v)) (uncued rights w y f) p)

-- The length told fits the buffer, and so does 0 where none is told.
pub length_fits : (told : Result ℕ ShowRefusal) (room : ℕ) → IfOk told (λ n. n ≤ room) → result_unwrap_or told 0 ≤ room
length_fits (Ok n) room fits = fits
length_fits (Err e) room fits = omega arith

-- A show that is told and fits stands at the front of the buffer.
in_front : (s : Show) (told : Result ℕ ShowRefusal) (before now' : List ℕ) → length s ≤ length before → Shown s before (Written told now') → take (result_unwrap_or told 0) now' ≡ s
in_front s told before now' fits (inl (h, e)) =
    let long : told ≡ Ok (length s) = cc in
    let text : now' ≡ s ++ drop (length s) before = cc in
    rw (long, text) (take-append_seam s (drop (length s) before))
in_front s told before now' fits (inr (short, e)) = absurd (omega arith)

module _ (l r : Meaning) where
  -- A true verdict is neither open nor unlike.
  pub decisive : (v : Verdict) → TrueVerdict l r LIMIT v → (v ≡ verdict.Open → ⊥) × (v ≡ verdict.Unlike → ⊥)
  decisive verdict.Open truth = let (s, first) = truth.otherwise (λ e. cc) (λ e. cc) in absurd (elim first.named [ inl a ↦ cc | inr b ↦ cc ])
  decisive verdict.Unlike truth = let (s, first) = truth.otherwise (λ e. cc) (λ e. cc) in absurd (elim first.named [ inl a ↦ cc | inr b ↦ cc ])
  decisive v truth = (λ e. cc, λ e. cc)

  module _ (told : Result ℕ ShowRefusal) (before now' : List ℕ) (room : length before ≡ LIMIT) where
    -- The show that the buffer holds, where a side is named.
    abbrev show : Show
    show = take (result_unwrap_or told 0) now'

    first_told : (v : Verdict) → (v ≡ verdict.Left) ⊎ (v ≡ verdict.Right) → ShowTold l r LIMIT v before (Written told now') → FirstDifference l r v show
    first_told v side (inl (s, first, short, shown)) = rw (in_front s told before now' (omega arith) shown) first
    first_told v (inl e) (inr none) = absurd (none.0 e)
    first_told v (inr e) (inr none) = absurd (none.1 e)

    pub found : (v : Verdict) (f : Finding) → TrueVerdict l r LIMIT v → ShowTold l r LIMIT v before (Written told now')
        → verdict_of f ≡ v → IfShown f (λ t. t ≡ show) → MachinesFinding l r f
    found v Equal truth shown e is = truth.equal.0 (sym e)
    found v (Left t) truth shown e is = (rw (e, is) (first_told v (inl (sym e)) shown), λ many. let full = truth.full.1 many in absurd cc)
    found v (Right t) truth shown e is = (rw (e, is) (first_told v (inr (sym e)) shown), λ many. let full = truth.full.1 many in absurd cc)
    found v Full truth shown e is = truth.full.0 (sym e)
