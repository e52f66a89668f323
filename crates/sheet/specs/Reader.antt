-- A reader that goes through a sheet: how far it is, what it goes past, and the fault that it meets.
-- Assumes nothing.
use Rattle.std.specs.Prelude.{◌≡◌, ℕ, ◌+◌, ◌<◌, ◌⊎◌, List, [], ◌∷◌, ◌++◌, length, take, drop, flat_map, Option, Some, Result, MatchResult, MatchOption, slice_get}
use Rattle.rules.specs.Rule.{Terms}
use Rattle.book.specs.declared.drafts.Draft.{Draft}
use Rattle.book.specs.Draft.{draft_content, with_rule}
use Rattle.book.specs.Held.{most_rules}
use Rattle.sheet.specs.declared.faults.Fault.{Fault}
use Rattle.sheet.specs.declared.fields.Field.{Field}
use Rattle.sheet.specs.declared.fields.Field.TheVariants.{Name}
use Rattle.sheet.specs.declared.stretches.Stretch.{Stretch}
use Rattle.sheet.specs.declared.lines.Line.{Line}
use Rattle.sheet.specs.declared.names.Names.{Names}
use Rattle.sheet.specs.declared.reader.Reader.{Reader}
use Rattle.sheet.specs.Fault.{Due, SectionDue, NameDue, RuleDue, Fails, line_of}
use Rattle.sheet.specs.Lines.{rest_of, fields_in}
use Rattle.sheet.specs.Names.{Named, fields_of, names_of}
use Rattle.sheet.specs.Sheet.{RuleRight, NamesInOrder, RulesInOrder, cues_word, cues_lines, book_lines, most_names, name_line, rule_line}
use Rattle.sheet.specs.Text.{Text, NameForm, written_line}

-- What a reader has read, and what is left.
abbrev pub read_by : Reader → Text
read_by r = take r.at r.sheet.now

abbrev pub rest_for : Reader → Text
rest_for r = drop r.at r.sheet.now

-- A reader goes past lines of the same sheet.
pub record Passes (ls : List (List Text)) (before after : Reader) : Type 0 where
  pub sheet : after.sheet.now ≡ before.sheet.now
  pub read : read_by after ≡ read_by before ++ flat_map written_line ls
  pub line : after.line ≡ before.line + length ls

-- A reader would go past lines, and then meets a fault in the next, where this is due.
pub record FaultAfter (ls : List (List Text)) (d : Due) (before : Reader) (f : Fault) : Type 0 where
  pub rest : Text
  pub stands : rest_for before ≡ flat_map written_line ls ++ rest
  pub line : f.line ≡ before.line + length ls
  pub fails : Fails d rest f.refusal

-- Reading one line: past it, or a fault in it.
abbrev pub ReadLine : {V : Type 0} → Result V Fault → (V → List Text → Type 0) → Due → Reader → Reader → Type 0
ReadLine answer Says d before after = MatchResult answer
    (λ v. (fs : List Text) × Says v fs × Passes (fs ∷ []) before after)
    (λ f. FaultAfter [] d before f)

-- A line that stands where the reader does, and goes past it.
pub record LineAt (l : Line) (before after : Reader) : Type 0 where
  pub passes : Passes (rest_of l ∷ []) before after
  pub place : (s : Stretch) → l.rest ≡ Some s → (s.line ≡ before.line) × (s.at ≡ before.at)

-- The next line, read as fields, where a whole one is left.
abbrev pub NextLine : Option Line → Reader → Reader → Type 0
NextLine found before after = (fields_in found ≡ line_of (rest_for before)) × MatchOption found (after ≡ before) (λ l. LineAt l before after)

-- A name is taken, where the reader stands: it is in form, and no other stood before.
pub record TakesName (r : Reader) (before after : Names) (fs : List Text) : Type 0 where
  pub name : Stretch
  pub form : NameForm name.text.now
  pub other : (c : ℕ) → Named (names_of before) name.text.now c → ⊥
  pub reads : fs ≡ name_line name.text.now
  pub taken : fields_of after ≡ fields_of before ++ Name name ∷ []
  pub line : name.line ≡ r.line
  pub at : name.at ≡ r.at

-- A rule is taken: it is right.
pub record TakesRule (names : List Text) (before after : Draft) (fs : List Text) : Type 0 where
  pub rule : Terms
  pub right : RuleRight (length names) rule
  pub reads : fs ≡ rule_line names rule
  pub rules : draft_content after ≡ with_rule (draft_content before) rule

-- Where the name of cue c stands, in a section of n with these names that begins where the reader is.
abbrev pub Placed : Reader → ℕ → List Text → ℕ → Field → Type 0
Placed r n names c f = (s : Stretch) × (f ≡ Name s) × (s.line ≡ r.line + 1 + c) × (s.at ≡ r.at + length (flat_map written_line (cues_lines n (take c names))))

-- Names were read, in a section of n: they are in order, the reader is past their lines, and each stands where it does.
pub record NamesSoFar (n : ℕ) (before after : Reader) (ns : Names) : Type 0 where
  pub order : NamesInOrder n (names_of ns)
  pub passes : Passes (cues_lines n (names_of ns)) before after
  pub places : (c : ℕ) (f : Field) → slice_get (fields_of ns) c ≡ Some f → Placed before n (names_of ns) c f

-- A fault in the section of names: in its own line, or in a name's.
abbrev pub NamesFault : Reader → Fault → Type 0
NamesFault before f = FaultAfter [] (SectionDue cues_word 1 most_names) before f
    ⊎ ((n : ℕ) × (names : List Text) × NamesInOrder n names × (length names < n) × FaultAfter (cues_lines n names) (NameDue names) before f)

-- Reading the section of names.
abbrev pub ReadNames : Result Names Fault → Reader → Reader → Type 0
ReadNames answer before after = MatchResult answer (λ ns. NamesSoFar (length (names_of ns)) before after ns) (λ f. NamesFault before f)

-- Rules were read, in a book's section of n: they are right, the reader is past their lines, and the draft holds them.
pub record RulesSoFar (word : Text) (names : List Text) (n : ℕ) (before after : Reader) (d : Draft) : Type 0 where
  pub rules : List Terms
  pub order : RulesInOrder names n rules
  pub passes : Passes (book_lines word names n rules) before after
  pub content : draft_content d ≡ record { cues = length names; rules = rules }

-- A fault in a book's section: in its own line, or in a rule's.
abbrev pub BookFault : Text → List Text → Reader → Fault → Type 0
BookFault word names before f = FaultAfter [] (SectionDue word 0 most_rules) before f
    ⊎ ((n : ℕ) × (rules : List Terms) × RulesInOrder names n rules × (length rules < n) × FaultAfter (book_lines word names n rules) (RuleDue names rules) before f)

-- Reading a book's section.
abbrev pub ReadBook : Result Draft Fault → Text → List Text → Reader → Reader → Type 0
ReadBook answer word names before after = MatchResult answer
    (λ d. RulesSoFar word names (length (draft_content d).rules) before after d) (λ f. BookFault word names before f)
