-- What is known when enough was granted to a bench, or its verdict has fallen.
-- Assumes nothing.
use Rattle.std.proofs.Common.{◌≡◌, ◌≢◌, ℕ, ◌<◌, ◌≤◌, ◌⊎◌, List, ◌++◌, length, take, drop, Err, Result, inl, inr, refl, sym, ap, ◌∙◌, arith}
use Rattle.std.specs.Result.{result_unwrap_or}
use Rattle.std.proofs.lemmas.Bool.{cases_eq}
use Rattle.machine.specs.Show.{Show}
use Rattle.machine.specs.Meaning.{Meaning}
use Rattle.search.specs.declared.states.Verdict.{Verdict}
use Rattle.search.specs.declared.states.Verdict.TheVariants.{Open, Left, Right, Unlike}
use Rattle.search.specs.declared.states.ShowRefusal.{ShowRefusal}
use Rattle.search.specs.declared.states.ShowRefusal.TheVariants.{NoShow}
use Rattle.search.specs.Search.{after, unlike_search}
use Rattle.search.specs.Calls.{Call, AskVerdict, WriteShow, Told, Written, Answer, Strategy}
use Rattle.search.specs.Truth.{FirstDifference, TrueVerdict}
use Rattle.search.specs.Runs.{ShowTold, Shown, TrueAnswer, OneTruth}
use Rattle.bench.specs.declared.benches.Bench.{Bench}
use Rattle.bench.specs.declared.cells.TheConstants.{LIMIT}
use Rattle.bench.specs.Bench.{Called, Handled, UnlikeAnswer, SameMachines, TellsTheTruth, StaysUnlike}
use Rattle.clients.specs.Comparing.{SameCues, EqualSays, FullSays, UnlikeSays, SideSays, WritesFront}
use Rattle.clients.proofs.Compared.{all_agree, all_equal, agree_at_first, too_many, left_first, right_first, in_front}

-- The verdict told, and the answer of show on a buffer that held the first bytes and holds the second.
pub record Concluded (l r : Meaning) (v : Verdict) (told : Result ℕ ShowRefusal) (before now' : List ℕ) : Type 0 where
  pub truly : SameCues l.steps r.steps → TrueVerdict l r LIMIT v × ShowTold l r LIMIT v before (Written told now')
  pub unlike : (SameCues l.steps r.steps → ⊥) → (v ≡ Unlike) × (told ≡ Err NoShow) × (now' ≡ before)

-- The verdict can be asked for at any time.
pub asking : {L R : Type 0} (lefts : L → Meaning) (rights : R → Meaning) (here : Bench L R) → Called lefts rights AskVerdict (Told here.state.verdict) here here
asking lefts rights here = record { answered = refl; state = refl; left = refl; right = refl }

-- A bench that was opened over the machines x and y, and handled by grants that add up to g.
module _ {L R : Type 0} (lefts : L → Meaning) (rights : R → Meaning) (x : L) (y : R) where
  pub record Opened (b : Bench L R) : Type 0 where
    pub machines : (b.left ≡ x) × (b.right ≡ y)
    pub truth : SameCues (lefts x).steps (rights y).steps → TellsTheTruth lefts rights b
    pub stays : (SameCues (lefts x).steps (rights y).steps → ⊥) → StaysUnlike lefts rights b

  pub record Reached (g : ℕ) (here : Bench L R) : Type 0 where
    pub bench : Bench L R
    pub opened : Opened bench
    pub pick : Strategy
    pub answers : List Answer
    pub run : Handled lefts rights pick bench answers g here

  module _ (g : ℕ) (here : Bench L R) (so : Reached g here) where
    abbrev l : Meaning
    l = lefts x

    abbrev r : Meaning
    r = rights y

    -- Every call is answered truly.
    pub truly : SameCues l.steps r.steps → (c : Call) (a : Answer) (next : Bench L R) → Called lefts rights c a here next → TrueAnswer l r LIMIT g c a
    truly same c a next call =
        let (e, f) = so.opened.machines in
        rw (← e, ← f) (((so.opened.truth same).always so.pick so.answers g here so.run).truly c a next call)

    -- The state is that of the sum of grants.
    pub state_same : SameCues l.steps r.steps → here.state ≡ after l r LIMIT g
    state_same same =
        let (e, f) = so.opened.machines in
        rw (← e, ← f) ((so.opened.truth same).always so.pick so.answers g here so.run).state

    -- The truth is one.
    pub one : SameCues l.steps r.steps → OneTruth l r LIMIT
    one same = let (e, f) = so.opened.machines in rw (← e, ← f) (so.opened.truth same).one

    -- Of machines with other cue counts nothing is told.
    pub unlike : (SameCues l.steps r.steps → ⊥) → (c : Call) (a : Answer) (next : Bench L R) → Called lefts rights c a here next → UnlikeAnswer c a
    unlike differ c a next call = (so.opened.stays differ so.pick so.answers g here so.run).answers c a next call

    pub state_unlike : (SameCues l.steps r.steps → ⊥) → here.state ≡ unlike_search
    state_unlike differ = (so.opened.stays differ so.pick so.answers g here so.run).state

    -- Both machines are as they were.
    pub kept : (here.left ≡ x) × (here.right ≡ y)
    kept = elim (cases_eq l.steps.cues r.steps.cues) [
      | inl same ↦ of (((so.opened.truth same).always so.pick so.answers g here so.run).machines)
      | inr differ ↦ of ((so.opened.stays differ so.pick so.answers g here so.run).machines)
    ]
      where
        of : SameMachines so.bench here → (here.left ≡ x) × (here.right ≡ y)
        of same = (same.left ∙ so.opened.machines.0, same.right ∙ so.opened.machines.1)

    -- Where enough was granted or the verdict has fallen.
    module _ (fallen : (LIMIT ≤ g) ⊎ (here.state.verdict ≢ Open)) (v : Verdict) (asked : Called lefts rights AskVerdict (Told v) here here) where
      pub verdict_true : SameCues l.steps r.steps → TrueVerdict l r LIMIT v
      verdict_true same =
          let (answer, when) = truly same AskVerdict (Told v) here asked in
          let e : v ≡ (after l r LIMIT g).verdict = cc in
          rw e (elim fallen [
            | inl enough ↦ when.enough enough
            | inr shut ↦ elim when.sooner [ inl open' ↦ absurd (shut (cc open')) | inr (t, final) ↦ t ]
          ])

      pub verdict_unlike : (SameCues l.steps r.steps → ⊥) → v ≡ Unlike
      verdict_unlike differ = let told = unlike differ AskVerdict (Told v) here asked in cc

      module _ (told : Result ℕ ShowRefusal) (before now' : List ℕ) (shown : Called lefts rights (WriteShow before) (Written told now') here here) where
        show_true : SameCues l.steps r.steps → ShowTold l r LIMIT v before (Written told now')
        show_true same =
            let (answer, when) = truly same AskVerdict (Told v) here asked in
            let e : v ≡ (after l r LIMIT g).verdict = cc in
            rw e (truly same (WriteShow before) (Written told now') here shown)

        show_unlike : (SameCues l.steps r.steps → ⊥) → (told ≡ Err NoShow) × (now' ≡ before)
        show_unlike differ = let answer = unlike differ (WriteShow before) (Written told now') here shown in (cc, cc)

        pub concluded : Concluded l r v told before now'
        concluded = record {
          truly = λ same. (verdict_true same, show_true same);
          unlike = λ differ. let (e, f) = show_unlike differ in (verdict_unlike differ, e, f);
        }

module _ (l r : Meaning) (v : Verdict) (told : Result ℕ ShowRefusal) (before now' : List ℕ) (done : Concluded l r v told before now') where
  -- A true verdict is neither open nor unlike.
  fallen : (w : Verdict) → TrueVerdict l r LIMIT w → (w ≢ Open) × (w ≢ Unlike)
  fallen Open t = let (s, first) = t.otherwise (λ e. cc) (λ e. cc) in absurd (elim first.named [ inl a ↦ cc | inr b ↦ cc ])
  fallen Unlike t = let (s, first) = t.otherwise (λ e. cc) (λ e. cc) in absurd (elim first.named [ inl a ↦ cc | inr b ↦ cc ])
  fallen w t = (λ e. cc, λ e. cc)

  same_or_not : SameCues l.steps r.steps ⊎ (SameCues l.steps r.steps → ⊥)
  same_or_not = cases_eq l.steps.cues r.steps.cues

  pub not_open : v ≢ Open
  not_open e = elim same_or_not [
    | inl same ↦ (fallen v (done.truly same).0).0 e
    | inr differ ↦ let (u, h, f) = done.unlike differ in cc (e, u)
  ]

  pub equal_says : EqualSays l r v
  equal_says same =
      let t = (done.truly same).0 in
      (λ e. all_agree l r LIMIT (t.equal.0 e), λ h. t.equal.1 (all_equal l r LIMIT h))

  pub full_says : FullSays l r v
  full_says same =
      let t = (done.truly same).0 in
      (λ e. agree_at_first l r LIMIT (t.full.0 e), λ h. t.full.1 (too_many l r LIMIT h))

  pub unlike_says : UnlikeSays l.steps r.steps v
  unlike_says = (λ e same. (fallen v (done.truly same).0).1 e, λ differ. (done.unlike differ).0)

  module _ (room : length before ≡ 2047) where
    -- The show at the front of the buffer.
    abbrev front : Show
    front = take (result_unwrap_or told 0) now'

    named : (w : Verdict) → w ≡ v → (w ≡ Left) ⊎ (w ≡ Right) → SameCues l.steps r.steps → FirstDifference l r w front
    named w is side same = elim (done.truly same).1 [
      | inl (s, first, short, shown) ↦ rw ((in_front s told before now' (omega arith) shown).0, is) first
      | inr (a, b, e) ↦ absurd (elim side [ inl e ↦ a (sym is ∙ e) | inr e ↦ b (sym is ∙ e) ])
    ]

    pub side_says : SideSays l r v front
    side_says = (
      λ e. elim same_or_not [
        | inl same ↦ left_first l r front (rw e at (named v refl (inl e) same))
        | inr differ ↦ let (u, h, f) = done.unlike differ in absurd (cc (e, u))
      ],
      λ e. elim same_or_not [
        | inl same ↦ right_first l r front same (rw e at (named v refl (inr e) same))
        | inr differ ↦ let (u, h, f) = done.unlike differ in absurd (cc (e, u))
      ],
    )

    -- Nothing is written where no show is told.
    none_written : told ≡ Err NoShow → now' ≡ before → WritesFront (result_unwrap_or told 0) before now'
    none_written e f = rw (e, f) refl

    one_written : (s : Show) → length s < LIMIT → Shown s before (Written told now') → WritesFront (result_unwrap_or told 0) before now'
    one_written s short shown =
        let (front', text, long) = in_front s told before now' (omega arith) shown in
        text ∙ ap (λ x. x ++ drop (length s) before) (sym front') ∙ rw long refl

    pub writes_front : WritesFront (result_unwrap_or told 0) before now'
    writes_front = elim same_or_not [
      | inl same ↦ elim (done.truly same).1 [
        | inl (s, first, short, shown) ↦ one_written s short shown
        | inr (a, b, e) ↦ none_written (cc e) (cc e)
      ]
      | inr differ ↦ let (u, e, f) = done.unlike differ in none_written e f
    ]
