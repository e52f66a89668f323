-- The first difference of two machines, found or expected.
-- Assumes nothing.
use Rattle.std.proofs.Common.{◌≡◌, ℕ, ◌-◌, ◌⊎◌, ◌≢◌, List, length, take, Ok, Err, Result, inl, inr, refl, ap, ◌∙◌, arith}
use Rattle.std.specs.Result.{result_unwrap_or}
use Rattle.std.proofs.lemmas.Bool.{cases_eq}
use Rattle.machine.specs.Show.{Show}
use Rattle.machine.specs.Meaning.{Meaning}
use Rattle.search.specs.declared.states.Verdict.{Verdict}
use Rattle.search.specs.declared.states.ShowRefusal.{ShowRefusal}
use Rattle.search.specs.declared.states.Verdict.TheVariants.{Equal, Left, Right, Full}
use Rattle.search.specs.Search.{after}
use Rattle.search.specs.Rank.{FirstInRank}
use Rattle.search.specs.Truth.{FirstDifference, TrueVerdict}
use Rattle.search.specs.Units.{TallyTells, LastDivides, verdict_after, recorded_after, show_after, RecordedInRank}
use Rattle.search.specs.Runs.{OneTruth}
use Rattle.bench.specs.declared.cells.TheConstants.{LIMIT}
use Rattle.clients.specs.Comparing.{SameCues, BenchFinds, AreSame, AreTooLarge, NoneToFind}
use Rattle.clients.specs.Counting.{LastOfFirst}
use Rattle.clients.proofs.Compared.{first_in_rank, divide, not_both, many_apart, all_agree, agree_at_first, too_many, first_difference, in_front}
use Rattle.clients.proofs.Told.{Concluded}

module _ (l r : Meaning) (v : Verdict) (told : Result ℕ ShowRefusal) (before now' : List ℕ) (done : Concluded l r v told before now') (room : length before ≡ 2047) where
  -- What was written is the first difference.
  pub found_first : (n : ℕ) → told ≡ Ok n → SameCues l.steps r.steps × FirstDifference l r v (take n now')
  found_first n is = elim (cases_eq l.steps.cues r.steps.cues) [
    | inl same ↦ elim (done.truly same).1 [
      | inl (s, first, short, shown) ↦
          let (front, text, long) = in_front s told before now' (omega arith) shown in
          let e : n ≡ length s = cc (long, is) in
          (same, rw (in_front_of s n e front long is) first)
      | inr (a, b, e) ↦ absurd (cc (e, is))
    ]
    | inr differ ↦ let (u, e, f) = done.unlike differ in absurd (cc (e, is))
  ]
    where
      in_front_of : (s : Show) (n : ℕ) → n ≡ length s → take (result_unwrap_or told 0) now' ≡ s → told ≡ Ok (length s) → told ≡ Ok n → take n now' ≡ s
      in_front_of s n e front long is = rw is at front

  -- A first difference that a bench finds is what was written.
  pub finds : OneTruth l r LIMIT → (s : Show) → BenchFinds l r s → (told ≡ Ok (length s)) × (take (length s) now' ≡ s)
  finds one s (same, few, differ) =
      let t = (done.truly same).0 in
      let (t', d) = t.otherwise (λ e. (t.equal.0 e).0 s differ.cued (divide l r s differ.differ)) (λ e. few (many_apart l r LIMIT (t.full.0 e).0)) in
      let (w, d') = first_difference l r s differ in
      elim (done.truly same).1 [
        | inl (s', first, short, shown) ↦
            let (front, text, long) = in_front s' told before now' (omega arith) shown in
            let e : s' ≡ s = one.show v w s' s first d' in
            (long ∙ ap (λ x. Ok (length x)) e, rw e at (front_of s' front long))
        | inr (a, b, e) ↦ absurd (elim d.named [ inl (e, x) ↦ a e | inr (e, x) ↦ b e ])
      ]
    where
      front_of : (s' : Show) → take (result_unwrap_or told 0) now' ≡ s' → told ≡ Ok (length s') → take (length s') now' ≡ s'
      front_of s' front long = rw long at front

  -- Nothing is written just where there is nothing to find: a true verdict that names no side is equal or full.
  no_side : (w : Verdict) → w ≢ Left → w ≢ Right → TrueVerdict l r LIMIT w → AreSame l r ⊎ AreTooLarge l r
  no_side Equal a b t = inl (all_agree l r LIMIT (t.equal.0 refl))
  no_side Full a b t = inr (agree_at_first l r LIMIT (t.full.0 refl))
  no_side w a b t = let (s, first) = t.otherwise (λ e. cc) (λ e. cc) in absurd (elim first.named [ inl x ↦ a x.0 | inr x ↦ b x.0 ])

  pub none_to_find : (e : ShowRefusal) → told ≡ Err e → NoneToFind l r
  none_to_find refusal is = elim (cases_eq l.steps.cues r.steps.cues) [
    | inl same ↦ elim (done.truly same).1 [
      | inl (s, first, short, shown) ↦ let (front, text, long) = in_front s told before now' (omega arith) shown in absurd (cc (long, is))
      | inr (a, b, e) ↦ inr (no_side v a b (done.truly same).0)
    ]
    | inr differ ↦ inl differ
  ]

  pub one_to_find : (n : ℕ) → told ≡ Ok n → NoneToFind l r → ⊥
  one_to_find n is (inl differ) = differ (found_first n is).0
  one_to_find n is (inr (inl (all, few))) =
      let (same, first) = found_first n is in
      not_both l r (take n now') (all (take n now') first.playable) first.divides
  one_to_find n is (inr (inr (many, none))) =
      let (same, first) = found_first n is in
      let full : v ≡ Full = (done.truly same).0.full.1 (too_many l r LIMIT (many, none)) in
      elim first.named [ inl x ↦ cc (full, x.0) | inr x ↦ cc (full, x.0) ]

last_met : (l r : Meaning) (v : Verdict) (recorded worked : ℕ) (s : Show) (here : ℕ → Show) → OneTruth l r LIMIT → FirstDifference l r v s
    → FirstInRank l.steps r.steps recorded here → LastDivides l r LIMIT here worked recorded v → LastOfFirst l.steps r.steps recorded s
last_met l r v recorded worked s here one d rank last shows first =
    one.show v v s (here (recorded - 1)) d last.divides
    ∙ one.rank recorded here shows rank (first_in_rank l r recorded shows first) (recorded - 1) (elim last.met [ inl (e, f) ↦ omega arith | inr m ↦ omega (arith, m.inside) ])

-- The show found is the last of the first shows, however they are listed.
pub last_of_first : (l r : Meaning) (v : Verdict) (recorded worked : ℕ) (s : Show) (here : ℕ → Show) → OneTruth l r LIMIT → FirstDifference l r v s
    → FirstInRank l.steps r.steps recorded here → TallyTells l r LIMIT here worked recorded v → LastOfFirst l.steps r.steps recorded s
last_of_first l r Left recorded worked s here one d rank tells shows first = last_met l r Left recorded worked s here one d rank tells shows first
last_of_first l r Right recorded worked s here one d rank tells shows first = last_met l r Right recorded worked s here one d rank tells shows first
last_of_first l r v recorded worked s here one d rank tells shows first = absurd (elim d.named [ inl (e, x) ↦ cc e | inr (e, x) ↦ cc e ])

-- So a bench tells it.
pub last_told : (l r : Meaning) (g recorded : ℕ) (v : Verdict) (s : Show) → OneTruth l r LIMIT → FirstDifference l r v s → v ≡ verdict_after l r LIMIT g
    → recorded ≡ recorded_after l r LIMIT g → RecordedInRank l r LIMIT g → LastOfFirst l.steps r.steps recorded s
last_told l r g recorded v s one d e f rank =
    rw f (last_of_first l r (verdict_after l r LIMIT g) (recorded_after l r LIMIT g) (after l r LIMIT g).worked s (show_after l r LIMIT g) one (rw e at d) rank.first rank.tells)
