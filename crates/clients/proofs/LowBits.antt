-- Numbers whose lowest bits are set.
-- Assumes nothing.
use Rattle.std.proofs.Common.{◌≡◌, ℕ, suc, ◌+◌, ◌-◌, ◌*◌, ◌/◌, ◌^◌, ◌<◌, sym, ap, ◌∙◌, arith}
use Rattle.std.proofs.lemmas.Nat.{div-mul-add, pow-add, pow_pos}

-- One less than a multiple of w holds w one time less.
one_less : (n a w : ℕ) → 0 < w → suc a * w ≡ n + 1 → n / w ≡ a
one_less n a w some e =
    let split : n ≡ a * w + (w - 1) = omega arith in
    rw split (div-mul-add a w (w - 1) (omega arith))

-- Of 32 bits the lowest k are left behind a shift.
pub low_bits_set : (k j : ℕ) → k + j ≡ 32 → 4294967295 / 2 ^ j + 1 ≡ 2 ^ k
low_bits_set k j e =
    let whole : 2 ^ k * 2 ^ j ≡ 4294967296 = sym (pow-add 2 k j) ∙ ap (λ n. 2 ^ n) e in
    let some : 0 < 2 ^ k = pow_pos k in
    let first : suc (2 ^ k - 1) ≡ 2 ^ k = omega arith in
    let all : suc (2 ^ k - 1) * 2 ^ j ≡ 4294967295 + 1 = ap (λ n. n * 2 ^ j) first ∙ whole in
    let less : 4294967295 / 2 ^ j ≡ 2 ^ k - 1 = one_less 4294967295 (2 ^ k - 1) (2 ^ j) (pow_pos j) all in
    omega arith
