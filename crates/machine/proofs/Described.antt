-- What a table holds is a right description, and the table means it.
-- Assumes nothing.
use Rattle.std.proofs.Common.{ℕ, zero, suc, ◌<◌, ◌≤◌, ◌+◌, ◌*◌, List, [], ◌∷◌, arith, refl}
use Rattle.std.specs.Prelude.{slice_index, take}
use Rattle.std.proofs.lemmas.List.{length-take-le, get_or-take}
use Rattle.std.proofs.lemmas.Bool.Decides.{nat_tests}
use Rattle.std.proofs.lemmas.Nat.{mul-le, mul-add-lt}
use Rattle.machine.specs.Show.{AllBelow}
use Rattle.machine.specs.declared.tables.Table.{Table}
use Rattle.machine.specs.Table.{table_meaning, description_of, Right, Means, MeansWhatItHolds}

-- What is below a limit at every place is so in front as well.
front_below : (limit n : ℕ) (xs : List ℕ) → ((k : ℕ) → slice_index xs k < limit) → AllBelow limit (take n xs)
front_below limit zero xs h = tt
front_below limit (suc n) [] h = tt
front_below limit (suc n) (x ∷ xs) h = (h 0, front_below limit n xs (λ k. h (suc k)))

module _ (t : Table) where
  -- The states and cues of a table have their places in it.
  room : t.states * t.cues ≤ 2048
  room = mul-le t.states t.cues 64 32 t.few_states t.few_cues

  right : Right (description_of t)
  right = record {
    states = (t.some_states, t.few_states);
    cues = (t.some_cues, t.few_cues);
    length = length-take-le (t.states * t.cues) t.next (omega (arith, room, t.full_length));
    names = (front_below t.states (t.states * t.cues) t.next t.next_is_state, t.closing_is_state);
  }

  means : Means (table_meaning t) (description_of t)
  means = record {
    cues = refl;
    start = refl;
    next = λ p c is_state is_cue. grind (arith, nat_tests, is_state, is_cue, get_or-take (t.states * t.cues) t.next (p * t.cues + c) 0 (omega (arith, mul-add-lt p t.cues c t.states is_state is_cue)));
    closes = λ p is_state. grind (arith, nat_tests, is_state);
    stays = λ p c none. grind (arith, nat_tests, none);
    bars = λ p none. grind (arith, nat_tests, none);
  }

pub means_what_it_holds : (t : Table) → MeansWhatItHolds t
means_what_it_holds t = (right t, means t)
