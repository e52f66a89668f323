-- Grants after a verdict has fallen.
-- Assumes nothing.
use Rattle.std.proofs.Common.{◌≡◌, ◌≢◌, ℕ, ◌≤◌, inl, inr, sym, ◌∙◌}
use Rattle.std.proofs.lemmas.Bool.{cases_eq}
use Rattle.machine.specs.Meaning.{Meaning}
use Rattle.search.specs.declared.states.Verdict.{Verdict}
use Rattle.search.specs.declared.states.Verdict.TheVariants.{Open}
use Rattle.search.specs.Calls.{AskVerdict, Told}
use Rattle.search.specs.Truth.{TrueVerdict}
use Rattle.bench.specs.declared.cells.TheConstants.{LIMIT}
use Rattle.bench.specs.declared.benches.Bench.{Bench}
use Rattle.bench.specs.Bench.{Called}
use Rattle.clients.proofs.Told.{Reached, asking, truly, state_same, state_unlike, verdict_true, verdict_unlike}

-- They change nothing.
pub nothing_changes : {L R : Type 0} (lefts : L → Meaning) (rights : R → Meaning) (x : L) (y : R) (g h : ℕ) (here there : Bench L R) → Reached lefts rights x y g here
    → Reached lefts rights x y h there → here.state.verdict ≢ Open → LIMIT ≤ h → here.state ≡ there.state
nothing_changes lefts rights x y g h here there first second shut enough = elim (cases_eq (lefts x).steps.cues (rights y).steps.cues) [
  | inl same ↦
      let (answer, when) = truly lefts rights x y g here first same AskVerdict (Told here.state.verdict) here (asking lefts rights here) in
      state_same lefts rights x y g here first same
      ∙ elim when.sooner [ inl open' ↦ absurd (shut (cc (answer, open'))) | inr (t, final) ↦ final h enough ]
      ∙ sym (state_same lefts rights x y h there second same)
  | inr differ ↦ state_unlike lefts rights x y g here first differ ∙ sym (state_unlike lefts rights x y h there second differ)
]

-- A true verdict is not open.
true_is_not_open : (l r : Meaning) (v : Verdict) → TrueVerdict l r LIMIT v → v ≢ Open
true_is_not_open l r Open t = let (s, first) = t.otherwise (λ e. cc) (λ e. cc) in absurd (elim first.named [ inl a ↦ cc | inr b ↦ cc ])
true_is_not_open l r v t = λ e. cc

-- So once the limit is granted, the verdict told is not open.
pub has_fallen : {L R : Type 0} (lefts : L → Meaning) (rights : R → Meaning) (x : L) (y : R) (g : ℕ) (here : Bench L R) (v : Verdict) → Reached lefts rights x y g here
    → LIMIT ≤ g → Called lefts rights AskVerdict (Told v) here here → v ≢ Open
has_fallen lefts rights x y g here v so enough asked = elim (cases_eq (lefts x).steps.cues (rights y).steps.cues) [
  | inl same ↦ true_is_not_open (lefts x) (rights y) v (verdict_true lefts rights x y g here so (inl enough) v asked same)
  | inr differ ↦ λ e. let unlike = verdict_unlike lefts rights x y g here so (inl enough) v asked differ in cc (e, unlike)
]
