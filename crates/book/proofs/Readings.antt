-- Readings: two right ones are the same, and what holds after the same continuations is read alike.
-- Assumes nothing.
use Rattle.std.proofs.Common.{◌≡◌, ℕ, ◌↔◌, IsTrue, [], ◌∷◌, sym, refl, arith}
use Rattle.machine.specs.Show.{Show}
use Rattle.machine.specs.Table.{bit}
use Rattle.book.specs.declared.values.Value.{Value}
use Rattle.book.specs.declared.values.Value.TheVariants.{HoldsAlways, Holds, Fails, FailsAlways}
use Rattle.book.specs.Value.{ValueIs, Permitted, Reads, ReadAlike, Relevant, behind, from_state}
use Rattle.book.specs.Reading.{OneReading}
use Rattle.book.proofs.Gathered.{within_lower}

-- Both ways: back, and one after another.
pub back : {P Q : Type 0} → P ↔ Q → Q ↔ P
back h = (h.1, h.0)

pub after : {P Q R : Type 0} → P ↔ Q → Q ↔ R → P ↔ R
after h g = (λ p. g.0 (h.0 p), λ r. h.1 (g.1 r))

-- Two right values are the same.
one_value : (count : ℕ) (H : Show → Type 0) (w x : Value) → ValueIs w count H → ValueIs x count H → w ≡ x
one_value count H HoldsAlways HoldsAlways a b = refl
one_value count H HoldsAlways Holds a b = absurd (b.1.2 (a.1 b.1.0 b.1.1))
one_value count H HoldsAlways Fails a b = absurd (b.0 a.0)
one_value count H HoldsAlways FailsAlways a b = absurd (b.0 a.0)
one_value count H Holds HoldsAlways a b = absurd (a.1.2 (b.1 a.1.0 a.1.1))
one_value count H Holds Holds a b = refl
one_value count H Holds Fails a b = absurd (b.0 a.0)
one_value count H Holds FailsAlways a b = absurd (b.0 a.0)
one_value count H Fails HoldsAlways a b = absurd (a.0 b.0)
one_value count H Fails Holds a b = absurd (a.0 b.0)
one_value count H Fails Fails a b = refl
one_value count H Fails FailsAlways a b = absurd (b.1 a.1.0 a.1.1 a.1.2)
one_value count H FailsAlways HoldsAlways a b = absurd (a.0 b.0)
one_value count H FailsAlways Holds a b = absurd (a.0 b.0)
one_value count H FailsAlways Fails a b = absurd (a.1 b.1.0 b.1.1 b.1.2)
one_value count H FailsAlways FailsAlways a b = refl

-- Numbers with the same bits are one.
same_bits : (m n : ℕ) → ((i : ℕ) → IsTrue (bit m i) ↔ IsTrue (bit n i)) → m ≡ n
same_bits m n same = let below = within_lower m n (λ i. (same i).0) in let above = within_lower n m (λ i. (same i).1) in omega arith

-- What is read alike has the same reading, and what has the same reading is read alike.
module _ (count : ℕ) (H G : Show → Type 0) (w x : Value) (m n : ℕ) (first : Reads count H w m) (second : Reads count G x n) where
  same_if_alike : ReadAlike count H G → (w ≡ x) × (m ≡ n)
  same_if_alike alike = (
    one_value count G w x ((alike.value w).0 first.value) second.value,
    same_bits m n (λ q. after (first.permitted q) (after (alike.permitted q) (back (second.permitted q)))),
  )

  alike_if_same : w ≡ x → m ≡ n → ReadAlike count H G
  alike_if_same e f = record {
    value = λ v. (λ h. rw (one_value count H v w h first.value, e) second.value, λ h. rw (one_value count G v x h second.value, sym e) first.value);
    permitted = λ q. after (back (first.permitted q)) (rw (sym f) at (second.permitted q));
  }

-- What holds after the same continuations has the same value, and permits the same cues.
value_as : (count : ℕ) (H G : Show → Type 0) → ((v : Show) → H v ↔ G v) → (w : Value) → ValueIs w count H → ValueIs w count G
value_as count H G same HoldsAlways (now, all) = ((same []).0 now, λ v cued. (same v).0 (all v cued))
value_as count H G same Holds (now, some) = ((same []).0 now, (some.0, some.1, λ g. some.2 ((same some.0).1 g)))
value_as count H G same Fails (now, some) = (λ g. now ((same []).1 g), (some.0, some.1, (same some.0).0 some.2))
value_as count H G same FailsAlways (now, all) = (λ g. now ((same []).1 g), λ v cued g. all v cued ((same v).1 g))

permitted_as : (count : ℕ) (H G : Show → Type 0) → ((v : Show) → H v ↔ G v) → (q : ℕ) → Permitted count H q → Permitted count G q
permitted_as count H G same q h = (h.0, λ never. h.1 (value_as count (behind q G) (behind q H) (λ v. back (same (q ∷ v))) FailsAlways never))

-- So it is read alike, and a reading of the one is one of the other.
pub read_alike : (count : ℕ) (H G : Show → Type 0) → ((v : Show) → H v ↔ G v) → ReadAlike count H G
read_alike count H G same = record {
  value = λ w. (value_as count H G same w, value_as count G H (λ v. back (same v)) w);
  permitted = λ q. (permitted_as count H G same q, permitted_as count G H (λ v. back (same v)) q);
}

pub reads_as : (count : ℕ) (H G : Show → Type 0) → ((v : Show) → H v ↔ G v) → (w : Value) (mask : ℕ) → Reads count H w mask → Reads count G w mask
reads_as count H G same w mask reads =
    let alike = read_alike count H G same in
    record { value = (alike.value w).0 reads.value; permitted = λ q. after (reads.permitted q) (alike.permitted q) }

-- To be read alike is an equivalence.
alike_back : {count : ℕ} {H G : Show → Type 0} → ReadAlike count H G → ReadAlike count G H
alike_back h = record { value = λ w. back (h.value w); permitted = λ q. back (h.permitted q) }

alike_on : {count : ℕ} {H G K : Show → Type 0} → ReadAlike count H G → ReadAlike count G K → ReadAlike count H K
alike_on h g = record { value = λ w. after (h.value w) (g.value w); permitted = λ q. after (h.permitted q) (g.permitted q) }

-- So a cue is relevant to both or to neither.
pub relevant_as : (count : ℕ) (H G : Show → Type 0) → ((v : Show) → H v ↔ G v) → (q : ℕ) → Relevant count H q ↔ Relevant count G q
relevant_as count H G same q =
    let here = read_alike count H G same in
    let later = read_alike count (behind q H) (behind q G) (λ v. same (q ∷ v)) in
    (λ h alike. h (alike_on here (alike_on alike (alike_back later))), λ h alike. h (alike_on (alike_back here) (alike_on alike later)))

-- A cue is relevant exactly when the reading after it is another.
pub relevant_if_other : (count : ℕ) (H : Show → Type 0) (q : ℕ) (w x : Value) (m n : ℕ) → Reads count H w m → Reads count (behind q H) x n → ((w ≡ x) × (m ≡ n) → ⊥) ↔ Relevant count H q
relevant_if_other count H q w x m n first second =
    (λ other alike. other (same_if_alike count H (behind q H) w x m n first second alike), λ relevant same. relevant (alike_if_same count H (behind q H) w x m n first second same.0 same.1))

-- Any two readings of a state are one.
pub one_reading : OneReading
unfolding OneReading
one_reading count r s w x m n first second = same_if_alike count (from_state r s) (from_state r s) w x m n first second (read_alike count _ _ (λ v. (λ h. h, λ h. h)))
