-- The text of a state, cue by cue.
-- Assumes nothing.
use Rattle.std.proofs.Common.{◌≡◌, ℕ, suc, ◌+◌, List, ◌++◌, arith, append_assoc}
use Rattle.std.specs.Prelude.{codes, decimal}
use Rattle.machine.specs.Meaning.{Meaning}
use Rattle.examples.specs.Example.{cue_name}
use Rattle.two_tables.specs.Printing.{head_text, cues_text}

-- One cue more, by its name and where it leads, behind the first k.
pub one_more : (m : Meaning) (s k : ℕ) (name : List ℕ) (next : ℕ) → name ≡ cue_name k → next ≡ m.steps.next s k
    → (head_text m s ++ cues_text m.steps s k) ++ (codes " " ++ (name ++ (codes " " ++ decimal next))) ≡ head_text m s ++ cues_text m.steps s (k + 1)
one_more m s k name next named leads =
    let more : suc k ≡ k + 1 = omega arith in
    rw (named, leads, ← more) grind (arith, append_assoc)
