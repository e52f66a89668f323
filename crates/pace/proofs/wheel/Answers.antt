use Rattle.std.proofs.Common.{◌≡◌, ℕ, ◌*◌, ◌<◌, ◌≤◌, List, length, arith, lit<, rules}
use Rattle.std.proofs.ByRecursion.{All-from_get_or}
use Rattle.std.proofs.lemmas.Nat.{pow_pos}
use Rattle.machine.specs.Table.{Right, described}
use Rattle.pace.specs.Wheel.{Laid}
use Rattle.pace.proofs.wheel.Goals as goal

-- A wheel is laid in the bytes of a right description.
right : (states first : ℕ) (bytes : List ℕ) → 1 ≤ states → states ≤ 64 → length bytes ≡ states * 32 → Laid states first bytes → Right (described states 32 bytes 0)
right states first bytes some few long laid = record {
  states = (some, few);
  cues = (lit< tt, lit< tt);
  length = long;
  names = (All-from_get_or (λ x. x < states) bytes 0 (λ k inside. omega (arith, laid k inside)), pow_pos states);
}

pub unwrap-requires : goal.unwrap-requires
unwrap-requires c =
    let laid = right c.args.states c.args.first c.lay.new.next (omega arith) (omega arith) (omega arith) c.lay.ensures in
    search rules
