-- What clients of a bench say of two machines, in words of shows and of where they lead.
-- Assumes nothing.
use Rattle.std.specs.Prelude.{◌≡◌, ℕ, ◌<◌, ◌⊎◌, ◌↔◌, true, false, List, ◌++◌, take, drop}
use Rattle.machine.specs.Show.{Show, Cued, Earlier}
use Rattle.machine.specs.Meaning.{Stepping, Meaning, leads_to, allowed}
use Rattle.search.specs.declared.states.Verdict.{Verdict}
use Rattle.search.specs.declared.states.Verdict.TheVariants.{Equal, Left, Right, Full, Unlike}

-- How two machines step is all that these take.
module _ (l r : Stepping) where
  -- The machines have equally many cues.
  abbrev pub SameCues : Type 0
  SameCues = l.cues ≡ r.cues

  abbrev pub NotSameCues : Type 0
  NotSameCues = SameCues → ⊥

  -- Two shows lead both machines to the same positions.
  abbrev pub LeadAlike : Show → Show → Type 0
  LeadAlike s t = (leads_to l s ≡ leads_to l t) × (leads_to r s ≡ leads_to r t)

  -- There are so many shows, no two of which lead both machines to the same positions.
  pub record ManyApart (count : ℕ) : Type 0 where
    pub shows : ℕ → Show
    pub cued : (i : ℕ) → i < count → Cued l.cues (shows i)
    pub apart : (i j : ℕ) → i < j → j < count → LeadAlike (shows i) (shows j) → ⊥

  -- A show leads where one of the first `count` shows leads, which is the same show or an earlier one.
  abbrev pub LeadsBack : ℕ → (ℕ → Show) → Show → Type 0
  LeadsBack count shows t = (i : ℕ) × (i < count) × LeadAlike t (shows i) × ((shows i ≡ t) ⊎ Earlier (shows i) t)

  -- These shows, in show order, are the first to lead where they lead; and any show leads where one of them leads, or comes after
  -- them all.
  pub record LeadFirst (count : ℕ) (shows : ℕ → Show) : Type 0 where
    pub cued : (i : ℕ) → i < count → Cued l.cues (shows i)
    pub rising : (i j : ℕ) → i < j → j < count → Earlier (shows i) (shows j)
    pub apart : (i j : ℕ) → i < j → j < count → LeadAlike (shows i) (shows j) → ⊥
    pub covered : (t : Show) → LeadsBack count shows t ⊎ ((i : ℕ) → i < count → Earlier (shows i) t)

  -- A bench that may record 2,048 joint positions can tell the two apart or alike.
  abbrev pub BenchSuffices : Type 0
  BenchSuffices = ManyApart 2049 → ⊥

  -- What unlike says.
  abbrev pub UnlikeSays : Verdict → Type 0
  UnlikeSays v = (v ≡ Unlike) ↔ NotSameCues

-- What closes matters too.
module _ (l r : Meaning) where
  -- Both machines say the same of a show.
  abbrev pub Agree : Show → Type 0
  Agree s = allowed l s ≡ allowed r s

  -- They do so of every show.
  abbrev pub AgreeThroughout : Type 0
  AgreeThroughout = (s : Show) → Cued l.steps.cues s → Agree s

  -- There are so many shows that are the first to lead where they lead, and both machines say the same of each.
  pub record AgreeAtFirst (count : ℕ) : Type 0 where
    pub shows : ℕ → Show
    pub first : LeadFirst l.steps r.steps count shows
    pub agree : (i : ℕ) → i < count → Agree (shows i)

  -- Of this show the machines do not say the same, and it is the first.
  pub record DifferFirst (s : Show) : Type 0 where
    pub cued : Cued l.steps.cues s
    pub differ : Agree s → ⊥
    pub first : (t : Show) → (Agree t → ⊥) → (s ≡ t) ⊎ Earlier s t

  -- The show is the first of which they do not say the same, and a bench finds it.
  abbrev pub BenchFinds : Show → Type 0
  BenchFinds s = SameCues l.steps r.steps × BenchSuffices l.steps r.steps × DifferFirst s

  -- The machines are the same for every show, and a bench can tell; they have too many positions for a bench, and are the same at
  -- the first of them.
  abbrev pub AreSame : Type 0
  AreSame = AgreeThroughout × BenchSuffices l.steps r.steps

  abbrev pub AreTooLarge : Type 0
  AreTooLarge = ManyApart l.steps r.steps 2049 × AgreeAtFirst 2048

  -- A bench finds no show: the cue counts differ, or the machines are the same, or they are too large.
  abbrev pub NoneToFind : Type 0
  NoneToFind = NotSameCues l.steps r.steps ⊎ (AreSame ⊎ AreTooLarge)

  -- What equal and full say.
  abbrev pub EqualSays : Verdict → Type 0
  EqualSays v = SameCues l.steps r.steps → (v ≡ Equal) ↔ AreSame

  abbrev pub FullSays : Verdict → Type 0
  FullSays v = SameCues l.steps r.steps → (v ≡ Full) ↔ AreTooLarge

-- The first machine allows this show and the second does not, and it is the first show of which they do not say the same.
pub record AllowsFirst (l r : Meaning) (s : Show) : Type 0 where
  pub cued : Cued l.steps.cues s
  pub allows : allowed l s ≡ true
  pub bars : allowed r s ≡ false
  pub first : (t : Show) → (Agree l r t → ⊥) → (s ≡ t) ⊎ Earlier s t

-- What left and right say of the show found.
abbrev pub SideSays : Meaning → Meaning → Verdict → Show → Type 0
SideSays l r v s = (v ≡ Left → AllowsFirst l r s) × (v ≡ Right → AllowsFirst r l s)

-- Only the first so many bytes of a buffer are written.
abbrev pub WritesFront : ℕ → List ℕ → List ℕ → Type 0
WritesFront count before now' = now' ≡ take count now' ++ drop count before
