-- Counts: digits without leading zeros are the decimal text of what they are worth, and a decimal text has that form.
-- Assumes nothing.
use Rattle.std.proofs.Common.{◌≡◌, ap, ◌⊎◌, Option, Some, None, MatchOption, inl, inr, ℕ, zero, suc, get_or, ◌≤◌, ◌<◌, All, length, decimal, sym, arith, rules}
use Rattle.std.proofs.lemmas.Fmt.{decimal-digits_value, digits_decimal, length-decimal-le, decimal_nonempty, first_decimal, decimal_digit}
use Rattle.std.proofs.lemmas.List.Elements.{All-cons, All-nil}
use Rattle.std.proofs.lemmas.Str.Parse.{IsDigitsTest, IsNumeralModel, numerals_by_weight, digits_value_short}
use Rattle.sheet.specs.Fields.{NumeralForm, worth}
use Rattle.sheet.specs.Text.{Text, IsDigit, IsCount, most_count}

tells : IsDigitsTest (All IsDigit)
tells = record { empty = All-nil _; parts = λ c cs all. (all 0 0 (omega arith), λ k d low. all (suc k) d (omega arith)); more = λ c cs is all. All-cons IsDigit c cs is all }

own : IsNumeralModel (All IsDigit) worth
own = numerals_by_weight _ tells worth (Prim.search rules)

-- Up to three digits without leading zeros are the decimal text of what they are worth.
read_back : (x : Text) → NumeralForm x → 1 ≤ length x → length x ≤ 3 → (worth x ≤ most_count) × (x ≡ decimal (worth x))
read_back x f some few =
    let low = digits_value_short own x 3 f.digits few in
    (omega (arith, low), sym (decimal-digits_value own x f.digits some f.no_leading_zero (omega (arith, low))))

-- The decimal text of a number has no leading zero, unless the number is 0.
no_leading_zero : (n : ℕ) → n ≤ most_count → get_or (decimal n) 0 0 ≡ 48 → length (decimal n) ≡ 1
no_leading_zero zero low e = ap length (decimal_digit 0 (omega arith))
no_leading_zero (suc n) low e = absurd (omega (arith, first_decimal (suc n)))

-- The decimal text of a number up to the most has that form, and up to three digits.
written : (x : Text) (n : ℕ) → n ≤ most_count → x ≡ decimal n → NumeralForm x × (1 ≤ length x) × (length x ≤ 3)
written x n low e = rw e
    (record { digits = digits_decimal own n (omega arith); no_leading_zero = no_leading_zero n low }, decimal_nonempty n (omega arith), length-decimal-le 3 n (omega arith) (omega arith) (omega arith))

-- What up to three digits are worth is how they are read as a count; what has another form is none.
pub is_count : (found : Option ℕ) (x : Text) → NumeralForm x → MatchOption found ((length x ≡ 0) ⊎ (3 < length x)) (λ n. (1 ≤ length x) × (length x ≤ 3) × (n ≡ worth x)) → IsCount found x
is_count (Some n) x f h = rw h.2 (read_back x f h.0 h.1)
is_count None x f h = λ n low e. let w = written x n low e in elim h [ inl none ↦ absurd (omega arith) | inr long ↦ absurd (omega arith) ]

pub no_count : (x : Text) → (NumeralForm x → ⊥) → IsCount None x
no_count x other n low e = other (written x n low e).0
