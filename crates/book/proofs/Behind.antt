-- A position to which a show leads is read as the show.
-- Assumes nothing.
use Rattle.std.proofs.Common.{◌≡◌, ℕ, ◌<◌, ◌≤◌, ◌↔◌, Bool, ◌++◌, inl, inr, sym, ap, ◌∙◌, refl, arith, Ok, Err, Result}
use Rattle.std.proofs.lemmas.Option.{slice_get_within}
use Rattle.machine.specs.Show.{Show, Cued}
use Rattle.machine.specs.Meaning.{leads_to}
use Rattle.rules.specs.declared.rules.Rule.{Rule}
use Rattle.rules.specs.Rule.{Terms, terms, states_of, state_after, word_of}
use Rattle.rules.proofs.Numbering.{rule_states}
use Rattle.rules.proofs.Walks.{closes_where_it_holds}
use Rattle.book.specs.declared.books.Book.{Book}
use Rattle.book.specs.declared.values.Value.{Value}
use Rattle.book.specs.declared.values.ReadingRefusal.{ReadingRefusal}
use Rattle.book.specs.declared.values.ReadingRefusal.TheVariants.{NoSuchRule, NoSuchState, NoSuchCue}
use Rattle.book.specs.Content.{RuleAt}
use Rattle.book.specs.Book.{book_content, book_meaning, part}
use Rattle.book.specs.Value.{after_show, from_state}
use Rattle.book.specs.Reading.{Read, ReadBehindShows, Weighed, WeighedBehindShows}
use Rattle.book.proofs.Parts.{led_further, part_after, rule_of}
use Rattle.book.proofs.Readings.{after, reads_as, relevant_as}

-- A rule holds of a show with a continuation behind it exactly when a show may close where the continuation leads from its state.
pub state_tells : (r : Terms) (s v : Show) → from_state r (state_after r s) v ↔ after_show r s v
state_tells r s v = rw (sym (led_further r s v)) (closes_where_it_holds r (s ++ v))

-- Shows lead a rule to states of its own.
states_below : (r : Terms) (s : Show) → (x : Rule) × (terms x ≡ r) → state_after r s < states_of r
states_below r s (x, e) = rw (sym e) ((rule_states x).within (word_of (terms x) s))

-- At a position to which a show leads, the part of a rule is the state to which the show leads it; so the same holds after each
-- continuation, and the state is one of the rule's.
module _ (b : Book) (p i : ℕ) (s : Show) (cued : Cued b.cues s) (leads : p ≡ leads_to (book_meaning b).steps s) where
  part_is : (r : Terms) → RuleAt (book_content b) i r → part p i ≡ state_after r s
  part_is r there = ap (λ q. part q i) leads ∙ part_after b.cues b.held i r there s cued

  same_behind : (r : Terms) → RuleAt (book_content b) i r → (v : Show) → from_state r (part p i) v ↔ after_show r s v
  same_behind r there v = rw (part_is r there) (state_tells r s v)

  not_lacking : (r : Terms) → RuleAt (book_content b) i r → states_of r ≤ part p i → ⊥
  not_lacking r there past = let low = states_below r s (rule_of b.held i r there) in omega (arith, part_is r there)

-- So it is read, and a cue is weighed, as behind the show.
pub read_behind : (b : Book) (answer : Result (Value × ℕ) ReadingRefusal) (p i : ℕ) → Read answer (book_content b) p i → ReadBehindShows answer b p i
unfolding ReadBehindShows
read_behind b (Ok told) p i (r, (there, low), reads) s cued leads = (r, there, reads_as b.cues _ _ (same_behind b p i s cued leads r there) told.0 told.1 reads)
read_behind b (Err NoSuchRule) p i past s cued leads = (refl, past)
read_behind b (Err NoSuchState) p i (r, there, past) s cued leads = absurd (not_lacking b p i s cued leads r there past)
read_behind b (Err NoSuchCue) p i none s cued leads = absurd none

pub weighed_behind : (b : Book) (answer : Result Bool ReadingRefusal) (p i q : ℕ) → Weighed answer (book_content b) p i q → WeighedBehindShows answer b p i q
unfolding WeighedBehindShows
weighed_behind b (Ok told) p i q (r, (there, low), here, decides) s cued leads = (r, there, here, after decides (relevant_as b.cues _ _ (same_behind b p i s cued leads r there) q))
weighed_behind b (Err NoSuchRule) p i q past s cued leads = inl (refl, past)
weighed_behind b (Err NoSuchState) p i q (r, there, past) s cued leads = absurd (not_lacking b p i s cued leads r there past)
weighed_behind b (Err NoSuchCue) p i q (r, (there, low), past) s cued leads = inr (refl, slice_get_within _ i r there, past)
