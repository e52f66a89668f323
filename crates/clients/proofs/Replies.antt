-- What a verdict answers when it is asked.
-- Assumes nothing.
use Rattle.std.proofs.Common.{◌≡◌, ◌≤◌, ◌↔◌, Bool, IsTrue, Some, None, Option, inl, inr, le_refl, arith}
use Rattle.machine.specs.Meaning.{Meaning, Lawful}
use Rattle.search.specs.declared.states.Side.{Side}
use Rattle.search.specs.declared.states.Side.TheVariants as side
use Rattle.search.specs.declared.states.Verdict.{Verdict}
use Rattle.search.specs.Rank.{Comparable}
use Rattle.search.specs.Search.{Search, after, found}
use Rattle.search.specs.Truth.{AllEqual, TooMany}
use Rattle.search.specs.Units.{VerdictMeans, SideMeans, SideTold}
use Rattle.bench.specs.declared.cells.TheConstants.{LIMIT}
use Rattle.clients.specs.Comparing.{SameCues, AreSame, AreTooLarge}
use Rattle.clients.specs.Granting.{NamesSide}
use Rattle.clients.proofs.Compared.{all_agree, all_equal, agree_at_first, too_many, left_first, right_first}

module _ (l r : Meaning) (left : Lawful l.steps) (right : Lawful r.steps) (same : SameCues l.steps r.steps) (v : Verdict) (told : (after l r LIMIT LIMIT).verdict ≡ v) where
  ok : Comparable l.steps r.steps
  ok = record { left = left; right = right; counts = same }

  one : 1 ≤ LIMIT
  one = omega arith

  pub is_same : (b : Bool) → VerdictMeans AllEqual v b → IsTrue b ↔ AreSame l r
  is_same b means =
      let (sound, complete) = means l r ok LIMIT one LIMIT (le_refl LIMIT) told in
      (λ yes'. all_agree l r LIMIT (sound yes'), λ h. complete (all_equal l r LIMIT h))

  pub is_too_large : (b : Bool) → VerdictMeans TooMany v b → IsTrue b ↔ AreTooLarge l r
  is_too_large b means =
      let (sound, complete) = means l r ok LIMIT one LIMIT (le_refl LIMIT) told in
      (λ yes'. agree_at_first l r LIMIT (sound yes'), λ h. complete (too_many l r LIMIT h))

  named : (o : Option Side) (st : Search) → SideTold l r LIMIT st o → NamesSide l r o
  named None st (inl e) = inl (all_agree l r LIMIT e)
  named None st (inr e) = inr (agree_at_first l r LIMIT e)
  named (Some side.Left) st first = (found st, left_first l r (found st) first)
  named (Some side.Right) st first = (found st, right_first l r (found st) same first)

  pub names_side : (o : Option Side) → SideMeans v o → NamesSide l r o
  names_side o means = named o (after l r LIMIT LIMIT) (means l r ok LIMIT one LIMIT (le_refl LIMIT) told)
