-- Shows that divide two books as machines are those that divide them by their rules.
-- Assumes nothing.
use Rattle.std.proofs.Common.{◌≡◌, ℕ, zero, suc, ◌⊎◌, inl, inr, ◌↔◌, Bool, true, false, IsTrue, List, [], ◌∷◌, Some, slice_get, unwrap_or, sym, ap, refl}
use Rattle.machine.specs.Show.{Show}
use Rattle.machine.specs.Meaning.{Allows, Divides}
use Rattle.rules.specs.Rule.{Terms, closes_at, state_after, HoldsOf}
use Rattle.rules.proofs.Walks.{closes_where_it_holds}
use Rattle.book.specs.Content.{Content}
use Rattle.book.specs.Book.{content_meaning, AllowsWhatHolds, AllHold}
use Rattle.sheet.specs.Sheet.{Comparison}
use Rattle.comparison.specs.Books.{left_book, right_book, left_machine, right_machine, IsShow, SomeFails, OnlyAllows, DividesBooks}

-- What is told by a test is so or not.
so_or_not : {P : Type 0} → (b : Bool) → (IsTrue b ↔ P) → P ⊎ (P → ⊥)
so_or_not true told = inl (told.0 refl)
so_or_not false told = inr (λ p. let b = told.1 p in absurd cc)

-- All rules hold of a show, or some does not.
hold_or_fail : (rs : List Terms) (t : Show) → ((i : ℕ) (r : Terms) → slice_get rs i ≡ Some r → HoldsOf r t) ⊎ ((i : ℕ) × (r : Terms) × (slice_get rs i ≡ Some r) × (HoldsOf r t → ⊥))
hold_or_fail [] t = inl (λ i r e. absurd (cc e))
hold_or_fail (x ∷ rs) t = elim (so_or_not (closes_at x (state_after x t)) (closes_where_it_holds x t)) [
  | inr fails ↦ inr (0, x, refl, fails)
  | inl holds ↦ elim (hold_or_fail rs t) [ inr (i, r, there, fails) ↦ inr (suc i, r, there, fails) | inl all ↦ inl (every holds all) ]
]
  where
    every : HoldsOf x t → ((i : ℕ) (r : Terms) → slice_get rs i ≡ Some r → HoldsOf r t) → (i : ℕ) (r : Terms) → slice_get (x ∷ rs) i ≡ Some r → HoldsOf r t
    every holds all zero r e = rw (ap (λ o. unwrap_or o x) (sym e)) holds
    every holds all (suc i) r e = all i r e

-- Where some rule does not hold, not all do.
some_not_all : (b : Content) (t : Show) → SomeFails b t → AllHold b t → ⊥
some_not_all b t (i, r, there, fails) all = fails (all i r there)

-- No show is allowed by each book alone.
pub one_side : (b c : Content) (t : Show) → OnlyAllows b c t → OnlyAllows c b t → ⊥
one_side b c t only other = some_not_all c t only.1 other.0

-- Of two books with the theorem of books: one allows a show and the other does not exactly when the rules of the one all hold of it
-- and some rule of the other does not.
module _ (b c : Content) (t : Show) (allows : Allows (content_meaning b) t ↔ AllHold b t) (also : Allows (content_meaning c) t ↔ AllHold c t) where
  only_allows : Allows (content_meaning b) t → (Allows (content_meaning c) t → ⊥) → OnlyAllows b c t
  only_allows yes' none = (allows.0 yes', elim (hold_or_fail c.rules t) [ inl all ↦ absurd (none (also.1 all)) | inr some ↦ some ])

  allowed_only : OnlyAllows b c t → Allows (content_meaning b) t × (Allows (content_meaning c) t → ⊥)
  allowed_only (all, some) = (allows.1 all, λ yes'. some_not_all c t some (also.0 yes'))

-- So it is for a sheet's books.
module _ (s : Comparison) (lefts : AllowsWhatHolds (left_machine s) (left_book s)) (rights : AllowsWhatHolds (right_machine s) (right_book s)) where
  module _ (t : Show) (here : IsShow s t) where
    pub only_left : Allows (left_machine s) t → (Allows (right_machine s) t → ⊥) → OnlyAllows (left_book s) (right_book s) t
    only_left = only_allows (left_book s) (right_book s) t (lefts t here) (rights t here)

    pub only_right : (Allows (left_machine s) t → ⊥) → Allows (right_machine s) t → OnlyAllows (right_book s) (left_book s) t
    only_right none yes' = only_allows (right_book s) (left_book s) t (rights t here) (lefts t here) yes' none

    pub divides_books : Divides (left_machine s) (right_machine s) t → DividesBooks s t
    divides_books (inl (yes', none)) = inl (only_left yes' none)
    divides_books (inr (none, yes')) = inr (only_right none yes')

    pub divides_machines : DividesBooks s t → Divides (left_machine s) (right_machine s) t
    divides_machines (inl only) = inl (allowed_only (left_book s) (right_book s) t (lefts t here) (rights t here) only)
    divides_machines (inr only) = let (yes', none) = allowed_only (right_book s) (left_book s) t (rights t here) (lefts t here) only in inr (none, yes')
