-- What a true verdict and a show told say in words of shows.
-- Assumes nothing.
use Rattle.std.proofs.Common.{◌≡◌, ℕ, suc, ◌≤◌, ◌⊎◌, Bool, true, false, IsTrue, List, ◌++◌, length, take, drop, Ok, Result, inl, inr, refl, sym, ap, ◌∙◌, arith}
use Rattle.std.specs.Result.{result_unwrap_or}
use Rattle.std.proofs.Math.Seq.{take-append_seam}
use Rattle.machine.specs.Show.{Show}
use Rattle.machine.specs.Meaning.{Meaning, allowed, leads_to, Divides}
use Rattle.search.specs.declared.states.Verdict.{Verdict}
use Rattle.search.specs.declared.states.Verdict.TheVariants.{Left, Right}
use Rattle.search.specs.declared.states.ShowRefusal.{ShowRefusal}
use Rattle.search.specs.Calls.{Written}
use Rattle.search.specs.Rank.{jointly, MoreThan, LeadsToOneOf, FirstInRank}
use Rattle.search.specs.Truth.{Names, FirstDifference, AllEqual, TooMany}
use Rattle.search.specs.Runs.{Shown}
use Rattle.clients.specs.Comparing.{Agree, AgreeThroughout, LeadAlike, ManyApart, LeadsBack, LeadFirst, AgreeAtFirst, DifferFirst, AllowsFirst}

-- Two answers of yes or no are the same, or one alone is yes.
same_or_one : (a b : Bool) → (a ≡ b) ⊎ ((IsTrue a × (IsTrue b → ⊥)) ⊎ ((IsTrue a → ⊥) × IsTrue b))
same_or_one true true = inl refl
same_or_one true false = inr (inl (refl, λ e. cc))
same_or_one false true = inr (inr (λ e. cc, refl))
same_or_one false false = inl refl

is_false : (b : Bool) → (IsTrue b → ⊥) → b ≡ false
is_false true none = absurd (none refl)
is_false false none = refl

module _ (l r : Meaning) where
  -- Where no show divides, the machines agree, and the other way round.
  agree_or_divide : (s : Show) → Agree l r s ⊎ Divides l r s
  agree_or_divide s = same_or_one (allowed l s) (allowed r s)

  pub agree : (s : Show) → (Divides l r s → ⊥) → Agree l r s
  agree s none = elim (agree_or_divide s) [ inl e ↦ e | inr d ↦ absurd (none d) ]

  pub divide : (s : Show) → (Agree l r s → ⊥) → Divides l r s
  divide s none = elim (agree_or_divide s) [ inl e ↦ absurd (none e) | inr d ↦ d ]

  pub not_both : (s : Show) → Agree l r s → Divides l r s → ⊥
  not_both s e (inl (a, b)) = b (rw (← e) a)
  not_both s e (inr (a, b)) = a (rw e b)

  -- Shows that lead to one joint position lead both machines to the same positions, and the other way round.
  pub alike : (s t : Show) → jointly l.steps r.steps s ≡ jointly l.steps r.steps t → LeadAlike l.steps r.steps s t
  alike s t e = (ap (λ p. p.left) e, ap (λ p. p.right) e)

  pub one_pair : (s t : Show) → LeadAlike l.steps r.steps s t → jointly l.steps r.steps s ≡ jointly l.steps r.steps t
  one_pair s t (e, f) = ap (λ x. record { left = x; right = leads_to r.steps s }) e ∙ ap (λ x. record { left = leads_to l.steps t; right = x }) f

  -- So many shows apart lead to so many joint positions.
  pub many_apart : (k : ℕ) → MoreThan l.steps r.steps k → ManyApart l.steps r.steps (suc k)
  many_apart k more = record {
    shows = more.shows;
    cued = λ i h. more.playable i (omega arith);
    apart = λ i j h low e. more.apart i j h (omega arith) (one_pair (more.shows i) (more.shows j) e);
  }

  pub more_than : (k : ℕ) → ManyApart l.steps r.steps (suc k) → MoreThan l.steps r.steps k
  more_than k many = record {
    shows = many.shows;
    playable = λ i h. many.cued i (omega arith);
    apart = λ i j h low e. many.apart i j h (omega arith) (alike (many.shows i) (many.shows j) e);
  }

  -- The first shows of the first joint positions in rank are the first to lead where they lead.
  pub leads_back : (k : ℕ) (shows : ℕ → Show) (t : Show) → LeadsToOneOf l.steps r.steps k shows t → LeadsBack l.steps r.steps k shows t
  leads_back k shows t (i, h, e, late) = (i, h, alike t (shows i) e, late)

  pub leads_to_one : (k : ℕ) (shows : ℕ → Show) (t : Show) → LeadsBack l.steps r.steps k shows t → LeadsToOneOf l.steps r.steps k shows t
  leads_to_one k shows t (i, h, e, late) = (i, h, one_pair t (shows i) e, late)

  pub lead_first : (k : ℕ) (shows : ℕ → Show) → FirstInRank l.steps r.steps k shows → LeadFirst l.steps r.steps k shows
  lead_first k shows first = record {
    cued = first.playable;
    rising = first.rising;
    apart = λ i j h low e. first.apart i j h low (one_pair (shows i) (shows j) e);
    covered = λ t. elim (first.every t) [ inl one ↦ inl (leads_back k shows t one) | inr late ↦ inr late ];
  }

  pub first_in_rank : (k : ℕ) (shows : ℕ → Show) → LeadFirst l.steps r.steps k shows → FirstInRank l.steps r.steps k shows
  first_in_rank k shows first = record {
    playable = first.cued;
    rising = first.rising;
    apart = λ i j h low e. first.apart i j h low (alike (shows i) (shows j) e);
    every = λ t. elim (first.covered t) [ inl one ↦ inl (leads_to_one k shows t one) | inr late ↦ inr late ];
  }

  -- What equal and full say.
  pub all_agree : (k : ℕ) → AllEqual l r k → AgreeThroughout l r × (ManyApart l.steps r.steps (suc k) → ⊥)
  all_agree k (none, most) = (λ s here. agree s (none s here), λ many. most (more_than k many))

  pub all_equal : (k : ℕ) → AgreeThroughout l r × (ManyApart l.steps r.steps (suc k) → ⊥) → AllEqual l r k
  all_equal k (all, few) = (λ s here d. not_both s (all s here) d, λ more. few (many_apart k more))

  pub agree_at_first : (k : ℕ) → TooMany l r k → ManyApart l.steps r.steps (suc k) × AgreeAtFirst l r k
  agree_at_first k (more, none) = (
    many_apart k more,
    record {
      shows = none.shows;
      first = lead_first k none.shows none.first;
      agree = λ i h. agree (none.shows i) (none.none i h);
    },
  )

  pub too_many : (k : ℕ) → ManyApart l.steps r.steps (suc k) × AgreeAtFirst l r k → TooMany l r k
  too_many k (many, none) = (
    more_than k many,
    record {
      shows = none.shows;
      first = first_in_rank k none.shows none.first;
      none = λ i h d. not_both (none.shows i) (none.agree i h) d;
    },
  )

  -- What a first difference says.
  pub differ_first : (v : Verdict) (s : Show) → FirstDifference l r v s → DifferFirst l r s
  differ_first v s d = record {
    cued = d.playable;
    differ = λ e. not_both s e d.divides;
    first = λ t apart. d.first t (divide t apart);
  }

  pub first_difference : (s : Show) → DifferFirst l r s → (v : Verdict) × FirstDifference l r v s
  first_difference s d = (
    side (divide s d.differ),
    record {
      named = names (divide s d.differ);
      divides = divide s d.differ;
      playable = d.cued;
      first = λ t apart. d.first t (λ e. not_both t e apart);
    },
  )
    where
      side : Divides l r s → Verdict
      side (inl d) = Left
      side (inr d) = Right

      names : (d : Divides l r s) → Names l r (side d) s
      names (inl d) = inl (refl, d.0)
      names (inr d) = inr (refl, d.1)

  pub left_first : (s : Show) → FirstDifference l r Left s → AllowsFirst l r s
  left_first s d = elim d.divides [
    | inl (a, b) ↦ record { cued = d.playable; allows = a; bars = is_false (allowed r s) b; first = (differ_first Left s d).first }
    | inr (a, b) ↦ absurd (elim d.named [ inl (e, yes') ↦ a yes' | inr (e, yes') ↦ cc e ])
  ]

  pub right_first : (s : Show) → l.steps.cues ≡ r.steps.cues → FirstDifference l r Right s → AllowsFirst r l s
  right_first s same d = elim d.divides [
    | inr (a, b) ↦ record {
      cued = rw same at d.playable;
      allows = b;
      bars = is_false (allowed l s) a;
      first = λ t apart. (differ_first Right s d).first t (λ e. apart (sym e));
    }
    | inl (a, b) ↦ absurd (elim d.named [ inr (e, yes') ↦ b yes' | inl (e, yes') ↦ cc e ])
  ]

-- The show told stands at the front of the buffer, and later bytes are as they were.
pub in_front : (s : Show) (told : Result ℕ ShowRefusal) (before now' : List ℕ) → length s ≤ length before → Shown s before (Written told now')
    → (take (result_unwrap_or told 0) now' ≡ s) × (now' ≡ s ++ drop (length s) before) × (told ≡ Ok (length s))
in_front s told before now' fits (inl (h, e)) =
    let long : told ≡ Ok (length s) = cc in
    let text : now' ≡ s ++ drop (length s) before = cc in
    (rw (long, text) (take-append_seam s (drop (length s) before)), text, long)
in_front s told before now' fits (inr (short, e)) = absurd (omega arith)
