-- There is one way to number words. Show order is well-founded, since each word has a value that grows with it.
-- Assumes nothing.
use Rattle.std.proofs.Common.{◌≡◌, ℕ, zero, suc, ◌+◌, ◌<◌, ◌≤◌, [], ◌∷◌, length, map, inl, inr, sym, ◌∙◌, arith}
use Rattle.std.proofs.lemmas.List.{length-map}
use Rattle.machine.specs.Show.{LowerAt}
use Rattle.rules.specs.declared.letters.Letter.TheVariants.{A, B, Other}
use Rattle.rules.specs.declared.templates.Template.{Template}
use Rattle.rules.specs.Word.{Word}
use Rattle.rules.specs.States.{letter_number, OverItsLetters, EarlierWord, Numbers}

-- A word read as a number with digits 1, 2 and 3, and the weight of a digit in front of it.
abbrev weight : Word → ℕ
weight [] = 1
weight (l ∷ w) = weight w + weight w + weight w

abbrev so_often : ℕ → ℕ → ℕ
so_often zero k = 0
so_often (suc n) k = k + so_often n k

abbrev value : Word → ℕ
value [] = 0
value (l ∷ w) = so_often (letter_number l) (weight w) + weight w + value w

-- A word's value lies between those of A alone and of other alone.
at_least : (w : Word) → weight w ≤ value w + value w + 1
at_least [] = omega arith
at_least (l ∷ w) = let h = at_least w in omega arith

at_most : (w : Word) → value w + value w + 3 ≤ weight w + weight w + weight w
at_most [] = omega arith
at_most (A ∷ w) = let h = at_most w in omega arith
at_most (B ∷ w) = let h = at_most w in omega arith
at_most (Other ∷ w) = let h = at_most w in omega arith

some_weight : (w : Word) → 1 ≤ weight w
some_weight [] = omega arith
some_weight (l ∷ w) = let h = some_weight w in omega arith

weightier : (v w : Word) → length v ≤ length w → weight v ≤ weight w
weightier [] w h = some_weight w
weightier (l ∷ v) [] h = absurd (omega arith)
weightier (l ∷ v) (m ∷ w) h = let e = weightier v w (omega arith) in omega arith

-- A longer word has a higher value; so has a word as long with a later letter at the first difference.
longer : (v w : Word) → length v < length w → value v < value w
longer v [] h = absurd (omega arith)
longer v (m ∷ w) h = let e = weightier v w (omega arith) in let low = at_least (m ∷ w) in let high = at_most v in omega arith

once_more : (c d k : ℕ) → c < d → so_often c k + k ≤ so_often d k
once_more c zero k h = absurd (omega arith)
once_more zero (suc d) k h = omega arith
once_more (suc c) (suc d) k h = let e = once_more c d k (omega arith) in omega arith

higher : (v w : Word) (i : ℕ) → length v ≡ length w → LowerAt (map letter_number v) (map letter_number w) i → value v < value w
higher [] w i e h = absurd (omega (arith, h.inside))
higher (l ∷ v) [] i e h = absurd (omega arith)
higher (l ∷ v) (m ∷ w) zero e h =
    let up = weightier v w (omega arith) in
    let down = weightier w v (omega arith) in
    let k : weight v ≡ weight w = omega arith in
    let more = once_more (letter_number l) (letter_number m) (weight w) h.smaller in
    let low = at_least w in
    let high = at_most v in
    rw k (omega arith)
higher (l ∷ v) (m ∷ w) (suc i) e h =
    let up = weightier v w (omega arith) in
    let down = weightier w v (omega arith) in
    let k : weight v ≡ weight w = omega arith in
    let same : letter_number l ≡ letter_number m = h.agree 0 (omega arith) in
    let rest = higher v w i (omega arith) (record { inside = omega (arith, h.inside); agree = λ k lt. h.agree (suc k) (omega arith); smaller = h.smaller }) in
    rw (same, k) (omega arith)

earlier_lower : (v w : Word) → EarlierWord v w → value v < value w
earlier_lower v w (inl shorter) = longer v w (simp length-map at shorter)
earlier_lower v w (inr (e, (i, h))) = higher v w i (simp length-map at e) h

-- Two ways to number words give each word one number.
module _ (t : Template) (n : ℕ) where
  -- No word has a lower number in the one way than in the other, if earlier words have one number in both.
  no_lower : (f g : Word → ℕ) → Numbers t n f → Numbers t n g → (w : Word) → OverItsLetters t w → ((v : Word) → OverItsLetters t v → EarlierWord v w → f v ≡ g v) → f w < g w → ⊥
  no_lower f g one other w over before lower =
      let v = other.by_first_reach w (f w) over lower in
      let together : f v.0 ≡ f w = before v.0 v.1.0 v.2 ∙ v.1.1 in
      let apart : g v.0 ≡ g w = (other.told_apart v.0 w).1 ((one.told_apart v.0 w).0 together) in
      omega (arith, v.1.1)

  agree_below : (f g : Word → ℕ) → Numbers t n f → Numbers t n g → (k : ℕ) (w : Word) → value w < k → OverItsLetters t w → f w ≡ g w
  agree_below f g one other zero w less over = absurd (omega arith)
  agree_below f g one other (suc k) w less over =
      let before : (v : Word) → OverItsLetters t v → EarlierWord v w → f v ≡ g v = λ v own earlier. let h = earlier_lower v w earlier in agree_below f g one other k v (omega arith) own in
      let below = no_lower f g one other w over before in
      let above = no_lower g f other one w over (λ v own earlier. sym (before v own earlier)) in
      omega arith

  pub one_numbering : (f g : Word → ℕ) → Numbers t n f → Numbers t n g → (w : Word) → OverItsLetters t w → f w ≡ g w
  one_numbering f g one other w = agree_below f g one other (suc (value w)) w (omega arith)
