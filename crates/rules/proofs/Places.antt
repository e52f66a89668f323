-- What the tests of the rest of a word say, by places.
-- Assumes nothing.
use Rattle.std.proofs.Common.{◌≡◌, ℕ, zero, suc, ◌<◌, ◌≤◌, Bool, true, false, not, ◌&&◌, ◌||◌, [], ◌∷◌, length, ◌⊎◌, ◌↔◌, inl, inr, refl, ap, subst, arith, IsTrue, Some}
use Rattle.std.specs.Bool.{beq, Decides, MatchBool}
use Rattle.std.proofs.lemmas.List.{nil_from_length}
use Rattle.std.proofs.lemmas.Bool.Decides.{Decides-like, Decides-and, Decides-or, Decides-at}
use Rattle.rules.specs.declared.letters.Letter.{Letter}
use Rattle.rules.specs.declared.letters.Letter.TheVariants.{A, B, Other}
use Rattle.rules.specs.declared.templates.Template.{Template}
use Rattle.rules.specs.Word.{Word, StandsAt, Stands}
use Rattle.rules.proofs.Ahead.{no_a, no_b, gap_after, gap_before, wanted, preceded_from, preceded_in_front, ahead}

-- Tests.

-- A test decides a fact in other words, itself, an implication, and a fact or its denial as is wanted.
pub in_words : {P Q : Type 0} → {b : Bool} → P ↔ Q → Decides b P → Decides b Q
in_words {b} same = Decides-like b same.0 same.1

itself : (b : Bool) → Decides b (IsTrue b)
itself b = (λ h. h, λ h. h)

tells_if : {P Q : Type 0} → (x y : Bool) → Decides (not x) P → Decides y Q → Decides (x || y) (P → Q)
tells_if true y p q = (λ _ h. absurd (cc (p.1 h)), λ _. refl)
tells_if false true p q = (λ _ _. q.0 refl, λ _. refl)
tells_if false false p q = (λ h. cc, λ f. absurd (cc (q.1 (f (p.0 refl)))))

abbrev Is : Bool → Type 0 → Type 0
Is y P = MatchBool y P (P → ⊥)

pub tells_is : {P : Type 0} → (x y : Bool) → Decides x P → Decides (beq x y) (Is y P)
tells_is true true d = (λ _. d.0 refl, λ _. refl)
tells_is false true d = (λ h. cc, λ h. d.1 h)
tells_is true false d = (λ h. cc, λ denied. absurd (denied (d.0 refl)))
tells_is false false d = (λ _ h. absurd (cc (d.1 h)), λ _. refl)

pub is_same : {P Q : Type 0} → (y : Bool) → P ↔ Q → Is y P ↔ Is y Q
is_same true same = same
is_same false same = (λ h q. h (same.1 q), λ h p. h (same.0 p))

-- Letters.

tells_a : (l : Letter) → Decides (not (no_a l)) (Some l ≡ Some A)
tells_a A = (λ _. refl, λ _. refl)
tells_a B = (λ h. cc, λ h. cc)
tells_a Other = (λ h. cc, λ h. cc)

tells_b : (l : Letter) → Decides (not (no_b l)) (Some l ≡ Some B)
tells_b A = (λ h. cc, λ h. cc)
tells_b B = (λ _. refl, λ _. refl)
tells_b Other = (λ h. cc, λ h. cc)

-- Places.

-- What is said of every place where a letter stands may be said in other words.
pub each_place : {b : Bool} (a : Letter) (w : Word) (P Q : ℕ → Type 0) → ((i : ℕ) → StandsAt a w i → P i ↔ Q i) → Decides b ((i : ℕ) → StandsAt a w i → P i) → Decides b ((i : ℕ) → StandsAt a w i → Q i)
each_place a w P Q same = in_words (λ h i e. (same i e).0 (h i e), λ h i e. (same i e).1 (h i e))

-- It is said of the first letter and of the places behind it.
each_behind : {x y : Bool} (a l : Letter) (w : Word) (P : ℕ → Type 0) → Decides x (Some l ≡ Some a → P 0) → Decides y ((i : ℕ) → StandsAt a w i → P (suc i)) → Decides (x && y) ((i : ℕ) → StandsAt a (l ∷ w) i → P i)
each_behind a l w P first rest = in_words (together, λ h. (h 0, λ i. h (suc i))) (Decides-and _ _ first rest)
  where
    together : (Some l ≡ Some a → P 0) × ((i : ℕ) → StandsAt a w i → P (suc i)) → (i : ℕ) → StandsAt a (l ∷ w) i → P i
    together h zero = h.0
    together h (suc i) = h.1 i

-- Only letters of K stand at the places from i up to j.
abbrev pub Only : (Letter → Bool) → Word → ℕ → ℕ → Type 0
Only K w i j = (k : ℕ) (l : Letter) → i ≤ k → k < j → StandsAt l w k → IsTrue (K l)

-- One more letter in front moves the places on, and may itself be one of them.
only_on : {K : Letter → Bool} (l : Letter) (w : Word) (i j : ℕ) → Only K w i j → Only K (l ∷ w) (suc i) (suc j)
only_on l w i j o zero m below above is = absurd (omega arith)
only_on l w i j o (suc k) m below above is = o k m (omega arith) (omega arith) is

only_back : {K : Letter → Bool} (l : Letter) (w : Word) (i j : ℕ) → Only K (l ∷ w) (suc i) (suc j) → Only K w i j
only_back l w i j o k m below above is = o (suc k) m (omega arith) (omega arith) is

only_more : {K : Letter → Bool} (l : Letter) (w : Word) (j : ℕ) → IsTrue (K l) → Only K w 0 j → Only K (l ∷ w) 0 (suc j)
only_more {K} l w j h o zero m below above is = let e : l ≡ m = cc in let P : Letter → Type 0 = λ x. IsTrue (K x) in subst P e h
only_more l w j h o (suc k) m below above is = o k m (omega arith) (omega arith) is

only_parts : {K : Letter → Bool} (l : Letter) (w : Word) (j : ℕ) → Only K (l ∷ w) 0 (suc j) → IsTrue (K l) × Only K w 0 j
only_parts l w j o = (o 0 l (omega arith) (omega arith) refl, λ k m below above is. o (suc k) m (omega arith) (omega arith) is)

-- The word is empty; it begins with A, ends with A, has an A.

pub tells_empty : (t : Template) (w : Word) → Decides (ahead t w).empty (w ≡ [])
tells_empty t [] = (λ _. refl, λ _. refl)
tells_empty t (l ∷ w) = (λ h. cc, λ h. cc)

pub tells_first : (t : Template) (w : Word) → Decides (ahead t w).a_first (StandsAt A w 0)
tells_first t [] = (λ h. cc, λ h. cc)
tells_first t (l ∷ w) = tells_a l

abbrev EndsWithA : Word → Type 0
EndsWithA w = (i : ℕ) × (suc i ≡ length w) × StandsAt A w i

pub tells_last : (t : Template) (w : Word) → Decides (ahead t w).a_last (EndsWithA w)
tells_last t [] = (λ h. cc, λ h. absurd (cc h.2))
tells_last t (l ∷ w) = in_words (longer, shorter) (Decides-or _ _ (Decides-and _ _ (tells_empty t w) (tells_a l)) (tells_last t w))
  where
    longer : ((w ≡ []) × (Some l ≡ Some A)) ⊎ EndsWithA w → EndsWithA (l ∷ w)
    longer (inl (e, is)) = (0, rw e refl, is)
    longer (inr (i, e, is)) = (suc i, ap suc e, is)

    shorter : EndsWithA (l ∷ w) → ((w ≡ []) × (Some l ≡ Some A)) ⊎ EndsWithA w
    shorter (zero, e, is) = inl (nil_from_length w (omega arith), is)
    shorter (suc i, e, is) = inr (i, omega arith, is)

pub tells_some : (t : Template) (w : Word) → Decides (ahead t w).some_a (Stands A w)
tells_some t [] = (λ h. cc, λ h. absurd (cc h.1))
tells_some t (l ∷ w) = in_words (longer, shorter) (Decides-or _ _ (tells_a l) (tells_some t w))
  where
    longer : (Some l ≡ Some A) ⊎ Stands A w → Stands A (l ∷ w)
    longer (inl e) = (0, e)
    longer (inr (i, e)) = (suc i, e)

    shorter : Stands A (l ∷ w) → (Some l ≡ Some A) ⊎ Stands A w
    shorter (zero, e) = inl e
    shorter (suc i, e) = inr (i, e)

-- Answers.

-- A B stands, with only letters of K in front of it.
abbrev pub NextB : (Letter → Bool) → Word → Type 0
NextB K w = (j : ℕ) × StandsAt B w j × Only K w 0 j

pub tells_next : (t : Template) (w : Word) → Decides (ahead t w).b_next (NextB (gap_after t) w)
tells_next t [] = (λ h. cc, λ h. absurd (cc h.1))
tells_next t (l ∷ w) = in_words (longer, shorter) (Decides-or _ _ (tells_b l) (Decides-and _ _ (itself (gap_after t l)) (tells_next t w)))
  where
    longer : (Some l ≡ Some B) ⊎ (IsTrue (gap_after t l) × NextB (gap_after t) w) → NextB (gap_after t) (l ∷ w)
    longer (inl e) = (0, e, λ k m below above is. absurd (omega arith))
    longer (inr (h, (j, e, o))) = (suc j, e, only_more l w j h o)

    shorter : NextB (gap_after t) (l ∷ w) → (Some l ≡ Some B) ⊎ (IsTrue (gap_after t l) × NextB (gap_after t) w)
    shorter (zero, e, o) = inl e
    shorter (suc j, e, o) = let parts = only_parts l w j o in inr (parts.0, (j, e, parts.1))

-- Behind place i a B stands, with only letters of K between.
abbrev pub Answer : (Letter → Bool) → Word → ℕ → Type 0
Answer K w i = (j : ℕ) × (i < j) × StandsAt B w j × Only K w (suc i) j

next_answers : {K : Letter → Bool} (l : Letter) (w : Word) → NextB K w ↔ Answer K (l ∷ w) 0
next_answers {K} l w = (λ h. (suc h.0, omega arith, h.1, only_on l w 0 h.0 h.2), back)
  where
    back : Answer K (l ∷ w) 0 → NextB K w
    back (zero, lt, e, o) = absurd (omega arith)
    back (suc j, lt, e, o) = (j, e, only_back l w 0 j o)

answers_behind : {K : Letter → Bool} (l : Letter) (w : Word) (i : ℕ) → Answer K w i ↔ Answer K (l ∷ w) (suc i)
answers_behind {K} l w i = (λ h. (suc h.0, omega (arith, h.1), h.2, only_on l w (suc i) h.0 h.3), back)
  where
    back : Answer K (l ∷ w) (suc i) → Answer K w i
    back (zero, lt, e, o) = absurd (omega arith)
    back (suc j, lt, e, o) = (j, omega arith, e, only_back l w (suc i) j o)

-- Every A is answered, or none is.
abbrev pub Answered : Bool → (Letter → Bool) → Word → Type 0
Answered y K w = (i : ℕ) → StandsAt A w i → Is y (Answer K w i)

pub tells_answered : (t : Template) (w : Word) → Decides (ahead t w).answered (Answered (wanted t) (gap_after t) w)
tells_answered t [] = (λ _ i h. absurd (cc h), λ _. refl)
tells_answered t (l ∷ w) =
    each_behind A l w _
    (tells_if _ _ (tells_a l) (tells_is _ (wanted t) (in_words (next_answers l w) (tells_next t w))))
    (each_place A w _ _ (λ i e. is_same (wanted t) (answers_behind l w i)) (tells_answered t w))

-- Needs.

-- In front of place i an A stands, with only letters of K between; or only letters of K stand there, behind an A that x tells of.
abbrev pub Need : (Letter → Bool) → Bool → Word → ℕ → Type 0
Need K x w i = ((j : ℕ) × (j < i) × StandsAt A w j × Only K w (suc j) i) ⊎ (IsTrue x × Only K w 0 i)

-- Behind one more letter such an A stands when the letter is one, or one stood there already and the letter is of K.
carried : (x k : Bool) (l : Letter) → Decides (not (no_a l) || (x && k)) ((Some l ≡ Some A) ⊎ (IsTrue x × IsTrue k))
carried x k l = Decides-or _ _ (tells_a l) (Decides-and _ _ (itself x) (itself k))

need_first : (K : Letter → Bool) (x : Bool) (w : Word) → IsTrue x ↔ Need K x w 0
need_first K x w = (λ h. inr (h, λ k m below above is. absurd (omega arith)), back)
  where
    back : Need K x w 0 → IsTrue x
    back (inl (j, lt, e, o)) = absurd (omega arith)
    back (inr (h, o)) = h

need_behind : (K : Letter → Bool) (x : Bool) (l : Letter) (w : Word) (i : ℕ) → Need K (not (no_a l) || (x && K l)) w i ↔ Need K x (l ∷ w) (suc i)
need_behind K x l w i = (on, back)
  where
    on : Need K (not (no_a l) || (x && K l)) w i → Need K x (l ∷ w) (suc i)
    on (inl (j, lt, e, o)) = inl (suc j, omega arith, e, only_on l w (suc j) i o)
    on (inr (h, o)) = elim ((carried x (K l) l).0 h) [ inl e ↦ inl (0, omega arith, e, only_on l w 0 i o) | inr h ↦ inr (h.0, only_more l w i h.1 o) ]

    back : Need K x (l ∷ w) (suc i) → Need K (not (no_a l) || (x && K l)) w i
    back (inl (zero, lt, e, o)) = inr ((carried x (K l) l).1 (inl e), only_back l w 0 i o)
    back (inl (suc j, lt, e, o)) = inl (j, omega arith, e, only_back l w (suc j) i o)
    back (inr (h, o)) = let parts = only_parts l w i o in inr ((carried x (K l) l).1 (inr (h, parts.0)), parts.1)

-- Every B has its A.
abbrev pub Preceded : (Letter → Bool) → Bool → Word → Type 0
Preceded K x w = (i : ℕ) → StandsAt B w i → Need K x w i

pub tells_preceded : (t : Template) (w : Word) (x : Bool) → Decides (preceded_from (ahead t w) x) (Preceded (gap_before t) x w)
tells_preceded t [] true = (λ _ i h. absurd (cc h), λ _. refl)
tells_preceded t [] false = (λ _ i h. absurd (cc h), λ _. refl)
tells_preceded t (l ∷ w) x =
    Decides-at _ _ (either_way x)
    (each_behind B l w _
    (tells_if _ _ (tells_b l) (in_words (need_first (gap_before t) x (l ∷ w)) (itself x)))
    (each_place B w _ _ (λ i e. need_behind (gap_before t) x l w i) (tells_preceded t w _)))
  where
    either_way : (x : Bool) → preceded_from (ahead t (l ∷ w)) x ≡ preceded_in_front t l (ahead t w) x
    either_way true = refl
    either_way false = refl
