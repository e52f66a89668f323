-- What the contracts of comparisons come to.
-- Assumes nothing.
use Rattle.std.proofs.Common.{◌≡◌, ◌≢◌, ℕ, ◌<◌, ◌≤◌, ◌⊎◌, inl, inr, ◌↔◌, Bool, IsTrue, List, [], ◌∷◌, length, Option, Some, None, Result, Ok, Err, IfOk, codes, refl, sym, ap, ◌∙◌, subst, append-nil, arith}
use Rattle.std.proofs.lemmas.Bool.{cases_lt}
use Rattle.std.proofs.lemmas.Fmt.{decimal_digit}
use Rattle.machine.specs.Show.{Show}
use Rattle.machine.specs.Meaning.{Meaning}
use Rattle.rules.specs.Rule.{Terms, HoldsOf, word_of}
use Rattle.rules.specs.States.{Undivided}
use Rattle.book.specs.Book.{NotToldApart}
use Rattle.search.specs.declared.states.Verdict.{Verdict}
use Rattle.search.specs.declared.states.Verdict.TheVariants.{Open, Equal, Left, Right, Full, Unlike}
use Rattle.search.specs.Rank.{Playable, jointly}
use Rattle.search.specs.Truth.{TrueVerdict}
use Rattle.search.specs.Units.{TallyTells}
use Rattle.bench.specs.declared.cells.TheConstants.{LIMIT}
use Rattle.sheet.specs.declared.faults.Fault.{Fault}
use Rattle.sheet.specs.declared.faults.Refusal.TheVariants.{Reader}
use Rattle.sheet.specs.declared.faults.ReaderRefusal.TheVariants.{TooLong}
use Rattle.sheet.specs.Fault.{FaultOf}
use Rattle.sheet.specs.Sheet.{Comparison, most_bytes}
use Rattle.sheet.specs.Text.{Text}
use Rattle.comparison.specs.declared.deciding.Decision.{Decision}
use Rattle.comparison.specs.declared.deciding.Tally.{Tally}
use Rattle.comparison.specs.declared.outcomes.Finding.TheVariants as finding
use Rattle.comparison.specs.declared.reports.Report.{Report}
use Rattle.comparison.specs.Books.{left_machine, right_machine, IsShow}
use Rattle.comparison.specs.Finding.{AreEqual, verdict_of}
use Rattle.comparison.specs.Outcome.{ReportOf}
use Rattle.comparison.specs.Deciding.{TallyOf, NotCompared}
use Rattle.comparison.specs.Answering.{ReadsEnough}
use Rattle.comparison.specs.Printing.{PrintedFor, of_fault, fault_text}
use Rattle.clients.specs.Comparing.{AreSame}
use Rattle.clients.proofs.Compared.{all_agree, all_equal}
use Rattle.clients.specs.Comparisons.{HaveJoints, AllowTheSame, TellsApart, TakesFirst}

-- Two counts are the same or not.
pub same_or_not : (m n : ℕ) → (m ≡ n) ⊎ (m ≢ n)
same_or_not m n = elim (cases_lt m n) [
  | inl less ↦ inr (λ e. absurd (omega (arith, less, e)))
  | inr other ↦ elim (cases_lt n m) [ inl more ↦ inr (λ e. absurd (omega (arith, more, e))) | inr same ↦ inl (omega (arith, other, same)) ]
]

-- Where two machines are equal, what the tally counts as worked is how many joint positions they have.
pub joints : (l r : Meaning) (v : Verdict) (t : Tally) → TallyOf l r v t → v ≡ Equal → HaveJoints l.steps r.steps t.worked
joints l r v t tally e =
    let (same, every) = subst (TallyTells l r _ tally.shows t.worked t.recorded) e tally.tells in
    record {
      shows = tally.shows;
      apart = λ i j below inside. tally.first.apart i j below (omega (arith, same, inside));
      every = λ u. let (i, inside, one, later) = every u in (i, omega (arith, same, inside), one);
    }

-- They are found equal just where they are the same for every show, and a bench can tell.
pub found_same : (l r : Meaning) (v : Verdict) → TrueVerdict l r LIMIT v → (v ≡ Equal) ↔ AreSame l r
found_same l r v truth = (λ e. all_agree l r LIMIT (truth.equal.0 e), λ same. truth.equal.1 (all_equal l r LIMIT same))

-- Whatever the verdict, no more joint positions are worked than recorded.
tells_fewer : (l r : Meaning) (limit : ℕ) (shows : ℕ → Show) (w n : ℕ) (v : Verdict) → TallyTells l r limit shows w n v → w ≤ n
tells_fewer l r limit shows w n Open tells = omega (arith, tells)
tells_fewer l r limit shows w n Equal tells = omega (arith, tells.0)
tells_fewer l r limit shows w n Left tells = elim tells.met [ inl none ↦ omega (arith, none.1) | inr met ↦ omega (arith, met.inside, met.last) ]
tells_fewer l r limit shows w n Right tells = elim tells.met [ inl none ↦ omega (arith, none.1) | inr met ↦ omega (arith, met.inside, met.last) ]
tells_fewer l r limit shows w n Full tells = omega (arith, tells.inside, tells.last)
tells_fewer l r limit shows w n Unlike tells = omega (arith, tells.0)

pub fewer : (l r : Meaning) (v : Verdict) (t : Tally) → TallyOf l r v t → t.worked ≤ t.recorded
fewer l r v t tally = tells_fewer l r _ tally.shows t.worked t.recorded v tally.tells

-- Where they are equal, as many are worked as recorded; where a show divides them, fewer are.
pub all_worked : (l r : Meaning) (v : Verdict) (t : Tally) → TallyOf l r v t → v ≡ Equal → t.worked ≡ t.recorded
all_worked l r v t tally e = (subst (TallyTells l r _ tally.shows t.worked t.recorded) e tally.tells).0

not_all : (l r : Meaning) (limit : ℕ) (shows : ℕ → Show) (w n : ℕ) (v : Verdict) → (v ≡ Left) ⊎ (v ≡ Right) → TallyTells l r limit shows w n v → w < n
not_all l r limit shows w n Left side tells = elim tells.met [ inl none ↦ omega (arith, none.0, none.1) | inr met ↦ omega (arith, met.inside, met.last) ]
not_all l r limit shows w n Right side tells = elim tells.met [ inl none ↦ omega (arith, none.0, none.1) | inr met ↦ omega (arith, met.inside, met.last) ]
not_all l r limit shows w n Open side tells = omega (arith, tells)
not_all l r limit shows w n Equal side tells = absurd (elim side [ inl e ↦ cc | inr e ↦ cc ])
not_all l r limit shows w n Full side tells = absurd (elim side [ inl e ↦ cc | inr e ↦ cc ])
not_all l r limit shows w n Unlike side tells = absurd (elim side [ inl e ↦ cc | inr e ↦ cc ])

pub some_left : (l r : Meaning) (v : Verdict) (t : Tally) → TallyOf l r v t → (v ≡ Left) ⊎ (v ≡ Right) → t.worked < t.recorded
some_left l r v t tally side = not_all l r _ tally.shows t.worked t.recorded v side tally.tells

pub none_fewer : {L R : Type 0} (d : Decision L R) (before now' : List ℕ) → NotCompared d before now' → d.tally.worked ≤ d.tally.recorded
none_fewer d before now' none = omega (arith, none.worked)

-- No rule of a book without rules tells two shows apart.
pub none_told : (cues : ℕ) (rules : List Terms) (t u : Show) → rules ≡ [] → NotToldApart (record { cues = cues; rules = rules }) t u
none_told cues [] t u e i r there = absurd (cc there)
none_told cues (x ∷ rules) t u e i r there = absurd (cc e)

-- Where all shows lead to one joint position, no more than one is recorded.
pub at_most_one : (l r : Meaning) (v : Verdict) (t : Tally) → TallyOf l r v t
    → ((a b : Show) → Playable l.steps r.steps a → Playable l.steps r.steps b → jointly l.steps r.steps a ≡ jointly l.steps r.steps b) → t.recorded ≤ 1
at_most_one l r v t tally one = elim (cases_lt 1 t.recorded) [
  | inr few ↦ few
  | inl more ↦ absurd (tally.first.apart 0 1 (omega arith) more (one _ _ (tally.first.playable 0 (omega (arith, more))) (tally.first.playable 1 more)))
]

-- A rule that does not tell two shows apart holds of both or of neither.
pub held_over : (r : Terms) (t u : Show) → Undivided r.template r.n (word_of r t) (word_of r u) → HoldsOf r t → HoldsOf r u
held_over r t u same holds = rw append-nil at ((same [] refl).0 (rw append-nil holds))

-- The line of a sheet that is too long.
too_long_text : codes "refused 1 0 reader\n" ≡ fault_text (record { refusal = Reader TooLong; line = 0 })
too_long_text = simp (decimal_digit 1 (omega arith), decimal_digit 0 (omega arith))

pub too_long_printed : (sheet : Text) → most_bytes < length sheet → PrintedFor sheet (codes "refused 1 0 reader\n")
too_long_printed sheet long = of_fault (record { refusal = Reader TooLong; line = 0 }) (inl (long, refl, refl)) too_long_text

-- Two books are equal just where neither allows a show alone, and they have few enough joint positions.
pub equal_books : (s : Comparison) → AreEqual s ↔ AllowTheSame s
equal_books s = (
  λ (none, most). record {
    left = λ t cued all i r there fails. none t cued (inl (all, (i, r, there, fails)));
    right = λ t cued all i r there fails. none t cued (inr (all, (i, r, there, fails)));
    few = λ many. most (record { shows = many.shows; playable = λ i h. many.cued i (omega arith); apart = λ i j h low. many.apart i j h (omega arith) });
  },
  λ same. (
    λ t cued divides. elim divides [
      | inl (all, (i, r, there, fails)) ↦ same.left t cued all i r there fails
      | inr (all, (i, r, there, fails)) ↦ same.right t cued all i r there fails
    ],
    λ more. same.few (record { shows = more.shows; cued = λ i h. more.playable i (omega arith); apart = λ i j h low. more.apart i j h (omega arith) }),
  ),
)

-- A report finds them equal just then.
pub reported_equal : (s : Comparison) (r : Report) → ReportOf s r → (r.finding ≡ finding.Equal) ↔ AllowTheSame s
reported_equal s r report =
    let found = report.finding finding.Equal in
    let same = equal_books s in
    (λ e. same.0 (found.0 e), λ h. found.1 (same.1 h))

-- Two shows that a rule tells apart do not lead equal books to one joint position, so that two are recorded.
pub two_told_apart : (s : Comparison) (r : Report) → ReportOf s r → AllowTheSame s → (t u : Show) → IsShow s t → IsShow s u → TellsApart s t u → 2 ≤ r.tally.recorded
two_told_apart s r report same t u cued also (i, x, there, holds, fails) =
    let equal : verdict_of r.finding ≡ Equal = ap verdict_of ((reported_equal s r report).1 same) in
    let tally = report.tally in
    let (all, every) = subst (TallyTells (left_machine s) (right_machine s) _ tally.shows r.tally.worked r.tally.recorded) equal tally.tells in
    let (a, in_a, to_a, late_a) = every t in
    let (b, in_b, to_b, late_b) = every u in
    elim (cases_lt 1 r.tally.recorded) [
      | inl more ↦ omega (arith, more)
      | inr few ↦
          let one : a ≡ b = omega (arith, few, in_a, in_b) in
          let (lefts, rights) = (report.positions t u cued also).0 (to_a ∙ ap (λ k. jointly (left_machine s).steps (right_machine s).steps (tally.shows k)) one ∙ sym to_b) in
          absurd (fails (elim there [ inl l ↦ held_over x t u (lefts i x l) holds | inr l ↦ held_over x t u (rights i x l) holds ]))
    ]

-- Where it is read as far as it takes, the first bytes are read.
pub enough_read : (there left : Option Text) → ReadsEnough there left → TakesFirst 16385 there left
enough_read None left enough all e = absurd (cc e)
enough_read (Some bytes) None enough all e = absurd enough
enough_read (Some bytes) (Some rest) enough all e = let one : bytes ≡ all = cc in (rest, refl, rw one at enough)

-- A fault in line 0 is that of a sheet that is too long.
pub in_line_0 : (sheet : Text) (f : Fault) → FaultOf sheet f → f.line ≡ 0 → most_bytes < length sheet
in_line_0 sheet f (inl (long, refusal, line)) none = long
in_line_0 sheet f (inr (fits, fault)) none = absurd (omega (arith, fault.line, none))

-- What is said by a test that is right is so.
pub said : {E P : Type 0} (r : Result Bool E) → IfOk r (λ is. IsTrue is ↔ P) → P → IfOk r IsTrue
said (Ok b) told p = told.1 p
said (Err e) told p = tt
