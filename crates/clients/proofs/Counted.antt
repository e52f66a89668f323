-- What a verdict and a tally say together.
-- Assumes nothing.
use Rattle.std.proofs.Common.{◌≡◌, ℕ, ◌-◌, ◌<◌, [], ◌∷◌, ◌++◌, inl, inr, refl}
use Rattle.std.proofs.lemmas.Bool.{cases_eq}
use Rattle.machine.specs.Show.{Show}
use Rattle.machine.specs.Meaning.{Meaning}
use Rattle.search.specs.declared.states.Verdict.{Verdict}
use Rattle.search.specs.declared.states.Verdict.TheVariants.{Open, Equal, Left, Right, Full, Unlike}
use Rattle.search.specs.Rank.{FirstInRank}
use Rattle.search.specs.Search.{after}
use Rattle.search.specs.Calls.{AskVerdict, Tally, Told, Tallied}
use Rattle.search.specs.Units.{TallyTells, LastDivides, verdict_after, recorded_after, show_after, link_after, RecordedInRank}
use Rattle.bench.specs.declared.cells.TheConstants.{LIMIT}
use Rattle.bench.specs.declared.benches.Bench.{Bench}
use Rattle.bench.specs.Bench.{Called}
use Rattle.clients.specs.Counting.{LastDiffers, CountedAs}
use Rattle.clients.proofs.Compared.{agree, leads_back, leads_to_one, lead_first, differ_first}
use Rattle.clients.proofs.Told.{Reached, truly, unlike}

module _ (l r : Meaning) (g : ℕ) (shows : ℕ → Show) (w k : ℕ) (first : FirstInRank l.steps r.steps k shows) where
  -- The last of the shows is the first difference.
  differs : (v : Verdict) → LastDivides l r LIMIT shows w k v → LastDiffers l r w k
  differs v last = record {
    shows = shows;
    first = lead_first l r k shows first;
    differ = differ_first l r v (shows (k - 1)) last.divides;
    met = elim last.met [
      | inl none ↦ inl none
      | inr m ↦ inr record { place = m.place; cue = m.cue; last = m.last; show = m.show; before = λ i d tried low. leads_back l r k shows _ (m.before i d tried low) }
    ];
  }

  -- Each show but the first is one that is worked, and a cue.
  abbrev Met : Type 0
  Met = (i : ℕ) → 0 < i → i < k → (e : ℕ) × (c : ℕ) × (e < w) × (shows i ≡ shows e ++ c ∷ [])

  pub by_verdict : (v : Verdict) → (v ≡ Open → w ≡ g) → Met → TallyTells l r LIMIT shows w k v → CountedAs l r g v w k
  by_verdict Open each met told = record {
    shows = shows;
    first = lead_first l r k shows first;
    each_unit = each refl;
    left = told.left;
    agree = λ i h. agree l r (shows i) (told.none i h);
    met = met;
    onward = λ i c low cue. leads_back l r k shows _ (told.onward i c low cue);
  }
  by_verdict Equal each met told = record {
    shows = shows;
    first = lead_first l r k shows first;
    all = told.0;
    every = λ t. leads_back l r k shows t (told.1 t);
  }
  by_verdict Left each met told = differs Left told
  by_verdict Right each met told = differs Right told
  by_verdict Full each met told = record {
    shows = shows;
    first = lead_first l r k shows first;
    all = told.all;
    place = told.place;
    cue = told.cue;
    inside = told.small;
    last = told.last;
    out = λ back. told.out (leads_to_one l r k shows _ back);
    before = λ i d tried low. leads_back l r k shows _ (told.before i d tried low);
  }
  by_verdict Unlike each met told = told

-- So it is after any number of units.
after_units : (l r : Meaning) (g : ℕ) → RecordedInRank l r LIMIT g → CountedAs l r g (verdict_after l r LIMIT g) (after l r LIMIT g).worked (recorded_after l r LIMIT g)
after_units l r g rank = by_verdict l r g (show_after l r LIMIT g) (after l r LIMIT g).worked (recorded_after l r LIMIT g) rank.first (verdict_after l r LIMIT g) rank.each_unit
    (λ i some low. let m = rank.linked i some low in ((link_after l r LIMIT g i).earlier, (link_after l r LIMIT g i).cue, m.worked, m.show)) rank.tells

told_alike : (l r : Meaning) (g : ℕ) (v v' : Verdict) (w w' k k' : ℕ) → v ≡ v' → w ≡ w' → k ≡ k' → CountedAs l r g v' w' k' → CountedAs l r g v w k
told_alike l r g v v' w w' k k' e f h told = rw (e, f, h) told

-- A bench says so.
pub counted_as : {L R : Type 0} (lefts : L → Meaning) (rights : R → Meaning) (x : L) (y : R) (g : ℕ) (here : Bench L R) (v : Verdict) (w k : ℕ) → Reached lefts rights x y g here
    → Called lefts rights AskVerdict (Told v) here here → Called lefts rights Tally (Tallied w k) here here → CountedAs (lefts x) (rights y) g v w k
counted_as lefts rights x y g here v w k so asked told = elim (cases_eq (lefts x).steps.cues (rights y).steps.cues) [
  | inl same ↦
      let (verdict, when) = truly lefts rights x y g here so same AskVerdict (Told v) here asked in
      let (counts, rank) = truly lefts rights x y g here so same Tally (Tallied w k) here told in
      told_alike (lefts x) (rights y) g v _ w _ k _ (cc verdict) (cc counts) (cc counts) (after_units (lefts x) (rights y) g rank)
  | inr differ ↦
      let verdict = unlike lefts rights x y g here so differ AskVerdict (Told v) here asked in
      let counts = unlike lefts rights x y g here so differ Tally (Tallied w k) here told in
      told_alike (lefts x) (rights y) g v Unlike w 0 k 0 (cc verdict) (cc counts) (cc counts) (refl, refl)
]
