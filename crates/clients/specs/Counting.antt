-- What clients say of the tally of a bench, in words of shows and of where they lead.
-- Assumes nothing.
use Rattle.std.specs.Prelude.{◌≡◌, ℕ, suc, ◌-◌, ◌<◌, ◌⊎◌, List, [], ◌∷◌, ◌++◌, take}
use Rattle.machine.specs.Show.{Show}
use Rattle.machine.specs.Meaning.{Stepping, Meaning}
use Rattle.search.specs.declared.states.Verdict.{Verdict}
use Rattle.search.specs.declared.states.Verdict.TheVariants.{Open, Equal, Left, Right, Full, Unlike}
use Rattle.clients.specs.Comparing.{Agree, LeadsBack, LeadFirst, DifferFirst}

-- So many joint positions are recorded. How the machines step is all that these take.
module _ (l r : Stepping) (recorded : ℕ) (shows : ℕ → Show) where
  -- The show at place i and one more cue leads where one of the first `recorded` shows leads.
  abbrev pub CueLeadsBack : ℕ → ℕ → Type 0
  CueLeadsBack i c = LeadsBack l r recorded shows (shows i ++ c ∷ [])

  -- So does every cue that was tried before the cue c behind the show at place w.
  abbrev pub TriedBefore : ℕ → ℕ → Type 0
  TriedBefore w c = (i d : ℕ) → (i < w) ⊎ ((i ≡ w) × (d < c)) → d < l.cues → CueLeadsBack i d

  -- The last show is the one worked last and a cue.
  pub record LastIsNew (worked : ℕ) : Type 0 where
    pub place : ℕ
    pub cue : ℕ
    pub last : worked ≡ suc place
    pub show : shows (recorded - 1) ≡ shows place ++ cue ∷ []
    pub before : TriedBefore place cue

-- And so many are worked.
module _ (l r : Stepping) (worked recorded : ℕ) where
  -- When it is equal: all are worked, and any show leads where one of these leads.
  pub record AllMet : Type 0 where
    pub shows : ℕ → Show
    pub first : LeadFirst l r recorded shows
    pub all : worked ≡ recorded
    pub every : (t : Show) → LeadsBack l r recorded shows t

  -- When it is full: 2,048 are recorded, and a cue behind the show worked last leads to none of them.
  pub record NoRoomLeft : Type 0 where
    pub shows : ℕ → Show
    pub first : LeadFirst l r recorded shows
    pub all : recorded ≡ 2048
    pub place : ℕ
    pub cue : ℕ
    pub inside : cue < l.cues
    pub last : worked ≡ suc place
    pub out : CueLeadsBack l r recorded shows place cue → ⊥
    pub before : TriedBefore l r recorded shows place cue

-- What closes matters too.
module _ (l r : Meaning) (worked recorded : ℕ) where
  -- While the verdict is open: the recorded pairs are those to which the first shows lead. Both machines say the same of each of
  -- these shows; each but the first is one behind which a cue was tried, and that cue; and every cue behind those leads back.
  pub record MetSoFar (grant : ℕ) : Type 0 where
    pub shows : ℕ → Show
    pub first : LeadFirst l.steps r.steps recorded shows
    pub each_unit : worked ≡ grant
    pub left : worked < recorded
    pub agree : (i : ℕ) → i < recorded → Agree l r (shows i)
    pub met : (i : ℕ) → 0 < i → i < recorded → (w : ℕ) × (c : ℕ) × (w < worked) × (shows i ≡ shows w ++ c ∷ [])
    pub onward : (i c : ℕ) → i < worked → c < l.steps.cues → CueLeadsBack l.steps r.steps recorded shows i c

  -- When it names a side: the last of these shows is the first of which the machines do not say the same.
  pub record LastDiffers : Type 0 where
    pub shows : ℕ → Show
    pub first : LeadFirst l.steps r.steps recorded shows
    pub differ : DifferFirst l r (shows (recorded - 1))
    pub met : ((recorded ≡ 1) × (worked ≡ 0)) ⊎ LastIsNew l.steps r.steps recorded shows worked

-- In whatever way one lists shows that are the first to lead where they lead, `count` of them, this show is the last of the list.
abbrev pub LastOfFirst : Stepping → Stepping → ℕ → Show → Type 0
LastOfFirst l r count s = (shows : ℕ → Show) → LeadFirst l r count shows → s ≡ shows (count - 1)

-- The two numbers found are how many joint positions were met and how many cues the show has. It stands at the front of the buffer:
-- the first of which the machines do not say the same, and the one that led to the joint position met last.
abbrev pub PlaceFound : Meaning → Meaning → List ℕ → ℕ × ℕ → Type 0
PlaceFound l r buffer found = DifferFirst l r (take found.1 buffer) × LastOfFirst l.steps r.steps found.0 (take found.1 buffer)

-- What a verdict and a tally say together.
abbrev pub CountedAs : Meaning → Meaning → ℕ → Verdict → ℕ → ℕ → Type 0
CountedAs l r grant Open worked recorded = MetSoFar l r worked recorded grant
CountedAs l r grant Equal worked recorded = AllMet l.steps r.steps worked recorded
CountedAs l r grant Left worked recorded = LastDiffers l r worked recorded
CountedAs l r grant Right worked recorded = LastDiffers l r worked recorded
CountedAs l r grant Full worked recorded = NoRoomLeft l.steps r.steps worked recorded
CountedAs l r grant Unlike worked recorded = (worked ≡ 0) × (recorded ≡ 0)
