-- What comparing the machines of a sheet's books finds is what is so of the sheet, and only one finding is.
-- Assumes nothing.
use Rattle.std.proofs.Common.{◌≡◌, inl, inr, ◌↔◌, ap, refl}
use Rattle.machine.specs.Show.{Show}
use Rattle.search.specs.declared.states.Verdict.TheVariants as verdict
use Rattle.search.specs.Truth.{FirstDifference, TooMany}
use Rattle.search.proofs.OneTruth.{neither_later}
use Rattle.bench.specs.declared.cells.TheConstants.{LIMIT}
use Rattle.book.specs.Book.{AllowsWhatHolds}
use Rattle.sheet.specs.Sheet.{Comparison}
use Rattle.comparison.specs.declared.outcomes.Finding.{Finding}
use Rattle.comparison.specs.declared.outcomes.Finding.TheVariants.{Equal, Left, Right, Full}
use Rattle.comparison.specs.Books.{left_book, right_book, left_machine, right_machine, OnlyLeft, OnlyRight, DividesBooks}
use Rattle.comparison.specs.Finding.{MachinesFinding, IsFirst, AreTooMany, FirstThatDivides, FindingOf}
use Rattle.comparison.proofs.Divided.{one_side, only_left, only_right, divides_books, divides_machines}

module _ (s : Comparison) where
  -- The first show that divides is one.
  one_first : (P Q : Show → Type 0) (t u : Show) → (P t → DividesBooks s t) → (Q u → DividesBooks s u) → FirstThatDivides s P t → FirstThatDivides s Q u → t ≡ u
  one_first P Q t u divides also p q = neither_later t u (p.first u q.show (also q.only)) (q.first t p.show (divides p.only))

  -- The side that allows it is one.
  not_both : (t u : Show) → FirstThatDivides s (OnlyLeft s) t → FirstThatDivides s (OnlyRight s) u → ⊥
  not_both t u p q = one_side (left_book s) (right_book s) u (rw (one_first (OnlyLeft s) (OnlyRight s) t u inl inr p q) at p.only) q.only

  -- So no two findings are so.
  one_finding : (f g : Finding) → FindingOf s f → FindingOf s g → f ≡ g
  one_finding Equal Equal p q = refl
  one_finding Equal (Left t) p q = absurd (p.0 t q.show (inl q.only))
  one_finding Equal (Right t) p q = absurd (p.0 t q.show (inr q.only))
  one_finding Equal Full p q = absurd (p.1 q.0)
  one_finding (Left t) Equal p q = absurd (q.0 t p.show (inl p.only))
  one_finding (Left t) (Left u) p q = ap Left (one_first (OnlyLeft s) (OnlyLeft s) t u inl inl p q)
  one_finding (Left t) (Right u) p q = absurd (not_both t u p q)
  one_finding (Left t) Full p q = absurd (p.within q)
  one_finding (Right t) Equal p q = absurd (q.0 t p.show (inr p.only))
  one_finding (Right t) (Left u) p q = absurd (not_both u t q p)
  one_finding (Right t) (Right u) p q = ap Right (one_first (OnlyRight s) (OnlyRight s) t u inr inr p q)
  one_finding (Right t) Full p q = absurd (p.within q)
  one_finding Full Equal p q = absurd (q.1 p.0)
  one_finding Full (Left t) p q = absurd (q.within p)
  one_finding Full (Right t) p q = absurd (q.within p)
  one_finding Full Full p q = refl

  module _ (lefts : AllowsWhatHolds (left_machine s) (left_book s)) (rights : AllowsWhatHolds (right_machine s) (right_book s)) where
    -- There are too many joint positions for the machines exactly when there are for the sheet.
    too_many : TooMany (left_machine s) (right_machine s) LIMIT → AreTooMany s
    too_many (more, first) = (more, record { shows = first.shows; first = first.first; none = λ i low d. first.none i low (divides_machines s lefts rights (first.shows i) (first.first.playable i low) d) })

    machines_too_many : AreTooMany s → TooMany (left_machine s) (right_machine s) LIMIT
    machines_too_many (more, first) = (more, record { shows = first.shows; first = first.first; none = λ i low d. first.none i low (divides_books s lefts rights (first.shows i) (first.first.playable i low) d) })

    -- The first show that divides the machines is the first that divides the books.
    first_of : (Only : Show → Type 0) (t : Show) (v : _) → Only t → IsFirst (left_machine s) (right_machine s) v t → FirstThatDivides s Only t
    first_of Only t v only (first, within) = record {
      show = first.playable;
      only = only;
      first = λ u here d. first.first u (divides_machines s lefts rights u here d);
      within = λ many. within (machines_too_many many);
    }

    finding_of : (f : Finding) → MachinesFinding (left_machine s) (right_machine s) f → FindingOf s f
    finding_of Equal (none, most) = (λ t here d. none t here (divides_machines s lefts rights t here d), most)
    finding_of (Left t) first = first_of (OnlyLeft s) t verdict.Left (only first.0) first
      where
        only : FirstDifference (left_machine s) (right_machine s) verdict.Left t → OnlyLeft s t
        only d = elim d.divides [ inl (yes', none) ↦ only_left s lefts rights t d.playable yes' none | inr (none, yes') ↦ absurd (elim d.named [ inl (e, a) ↦ none a | inr (e, a) ↦ cc e ]) ]
    finding_of (Right t) first = first_of (OnlyRight s) t verdict.Right (only first.0) first
      where
        only : FirstDifference (left_machine s) (right_machine s) verdict.Right t → OnlyRight s t
        only d = elim d.divides [ inr (none, yes') ↦ only_right s lefts rights t d.playable none yes' | inl (yes', none) ↦ absurd (elim d.named [ inr (e, a) ↦ none a | inl (e, a) ↦ cc e ]) ]
    finding_of Full many = too_many many

    -- What is found is just what is so of the sheet.
    pub just_found : (f : Finding) → MachinesFinding (left_machine s) (right_machine s) f → (g : Finding) → (f ≡ g) ↔ FindingOf s g
    just_found f found g = (λ e. rw e at (finding_of f found), λ other. one_finding f g (finding_of f found) other)
