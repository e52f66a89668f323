-- A whole sheet, section by section.
-- Assumes nothing.
use Rattle.std.proofs.Common.{◌≡◌, inl, inr, List, [], length, Ok, Err, Result, refl, sym, ap, ◌∙◌, arith}
use Rattle.std.proofs.lemmas.List.{append-nil, take_all}
use Rattle.book.specs.Content.{Content}
use Rattle.book.specs.declared.drafts.Draft.{Draft}
use Rattle.book.specs.Draft.{draft_content}
use Rattle.sheet.specs.declared.faults.Fault.{Fault}
use Rattle.sheet.specs.declared.names.Names.{Names}
use Rattle.sheet.specs.declared.reader.Reader.{Reader}
use Rattle.sheet.specs.declared.sheets.Sheet.{Sheet}
use Rattle.sheet.specs.Fault.{Due, EndDue, due, FaultInLine}
use Rattle.sheet.specs.Names.{names_of}
use Rattle.sheet.specs.Reader.{FaultAfter, Passes, NamesSoFar, NamesFault, RulesSoFar, BookFault}
use Rattle.sheet.specs.WholeSheet.{AtStart, ReadWhole}
use Rattle.sheet.specs.Reading.{Holds, HoldsWritten, AcceptedWhenWritten, RefusedByItsFault, ReadRightly}
use Rattle.sheet.specs.Sheet.{Comparison, WellFormed, written, Beginning, Opening, InCues, InLeft, InRight, InOrder, RulesInOrder, lines, whole, book_lines, left_word, right_word}
use Rattle.sheet.specs.Text.{Text}
use Rattle.sheet.proofs.OneAnswer.{more_due, none_due, accepted_or_not, one_fault, one_sheet}
use Rattle.sheet.proofs.Sections.{on, later}

-- A fault after all lines that stand before one is a fault in that line.
in_line : (r : Reader) (f : Fault) → AtStart r → (b : Beginning) → InOrder b → {d : Due} → due b ≡ d → FaultAfter (lines b) d r f → FaultInLine r.sheet.now f
in_line r f start b order is k = record {
  before = b;
  rest = k.rest;
  order = order;
  stands = rw start.at at k.stands;
  line = omega (arith, k.line, start.line);
  fails = rw is k.fails;
}

-- A fault in the section of names.
pub names_fault_is : (r : Reader) (f : Fault) → AtStart r → NamesFault r f → FaultInLine r.sheet.now f
names_fault_is r f start (inl k) = in_line r f start Opening tt refl k
names_fault_is r f start (inr (n, names, order, room, k)) = in_line r f start (InCues n names) order (more_due (length names) n _ _ room) k

module _ (r mid : Reader) (ns : Names) (start : AtStart r) (h : NamesSoFar (length (names_of ns)) r mid ns) where
  -- A fault in the left book.
  pub left_fault_is : (f : Fault) → BookFault left_word (names_of ns) mid f → FaultInLine r.sheet.now f
  left_fault_is f (inl k) = in_line r f start (InCues _ (names_of ns)) h.order (none_due (length (names_of ns)) _ _) (rw (append-nil _) at (later h.passes k))
  left_fault_is f (inr (n, rules, order, room, k)) = in_line r f start (InLeft (names_of ns) n rules) (h.order, order) (more_due (length rules) n _ _ room) (later h.passes k)

-- All rules of a book's section: they are right, and the reader is past their lines.
all_rules : {word : Text} {names : List Text} {a b : Reader} {d : Draft} (k : RulesSoFar word names (length (draft_content d).rules) a b d)
    → RulesInOrder names (length k.rules) k.rules × Passes (book_lines word names (length k.rules) k.rules) a b
all_rules k = let same = ap (λ (c : Content). length c.rules) k.content in (rw same at k.order, rw same at k.passes)

module _ (r one two : Reader) (ns : Names) (d : Draft) (start : AtStart r) (h : NamesSoFar (length (names_of ns)) r one ns)
    (k : RulesSoFar left_word (names_of ns) (length (draft_content d).rules) one two d) where
  past : Passes (lines (InLeft (names_of ns) (length k.rules) k.rules)) r two
  past = on h.passes (all_rules k).1

  -- A fault in the right book.
  pub right_fault_is : (f : Fault) → BookFault right_word (names_of ns) two f → FaultInLine r.sheet.now f
  right_fault_is f (inl g) = in_line r f start (InLeft (names_of ns) _ k.rules) (h.order, (all_rules k).0) (none_due (length k.rules) _ _) (rw (append-nil _) at (later past g))
  right_fault_is f (inr (n, rules, order, room, g)) = in_line r f start (InRight (names_of ns) k.rules n rules) (h.order, (all_rules k).0, order) (more_due (length rules) n _ _ room) (later past g)

  module _ (three : Reader) (e : Draft) (m : RulesSoFar right_word (names_of ns) (length (draft_content e).rules) two three e) where
    abbrev said : Comparison
    said = record { names = names_of ns; left = k.rules; right = m.rules }

    all_past : Passes (lines (whole said)) r three
    all_past = on past (all_rules m).1

    order : InOrder (whole said)
    order = (h.order, (all_rules k).0, (all_rules m).0)

    -- A fault after the last line.
    pub end_fault_is : (f : Fault) → FaultAfter [] EndDue three f → FaultInLine r.sheet.now f
    end_fault_is f g = in_line r f start (whole said) order (none_due (length m.rules) _ _) (rw (append-nil _) at (later all_past g))

    -- What is said is written so, and held.
    pub all_read : three.at ≡ length three.sheet.now → HoldsWritten (record { names = ns; left = d; right = e }) r.sheet.now
    all_read all = (said, holds, order, is_written)
      where
        is_written : written said ≡ r.sheet.now
        is_written = sym (rw start.at at all_past.read) ∙ take_all three.at three.sheet.now (omega (arith, all)) ∙ all_past.sheet

        holds : Holds (record { names = ns; left = d; right = e }) said
        holds = record {
          names = refl;
          places = λ c f at. let (s, is, line, place) = h.places c f at in (s, is, omega (arith, line, start.line), omega (arith, place, start.at));
          left = k.content;
          right = m.content;
        }

-- What is held is one.
one_held : (r : Sheet) (s t : Comparison) → Holds r s → Holds r t → s ≡ t
one_held r s t h k =
    let left : s.left ≡ t.left = ap (λ (c : Content). c.rules) (sym h.left ∙ k.left) in
    let right : s.right ≡ t.right = ap (λ (c : Content). c.rules) (sym h.right ∙ k.right) in
    ap (λ x. record { names = x; left = s.left; right = s.right }) (sym h.names ∙ k.names) ∙ ap (λ x. record { names = t.names; left = x; right = s.right }) left
    ∙ ap (λ x. record { names = t.names; left = t.left; right = x }) right

-- What comes of a sheet that is not too long, read whole.
pub rightly : (answer : Result Sheet Fault) (r : Reader) (sheet : Text) → r.sheet.now ≡ sheet → ReadWhole answer r.sheet.now → ReadRightly answer sheet
rightly (Ok s) r sheet same h = rw same at h
rightly (Err f) r sheet same h = inr (rw same at r.short, rw same at h)

-- A sheet that is read as what it says, or refused with its fault, is accepted exactly when it is written, and refused exactly with its
-- fault.
pub accepted_when_written : (answer : Result Sheet Fault) (sheet : Text) → ReadRightly answer sheet → AcceptedWhenWritten answer sheet
accepted_when_written (Ok r) sheet (s, held, well, is) t = (λ h. said_so h, λ h. rw (one_sheet s t well h.0 (is ∙ sym h.1)) at held)
  where
    said_so : Holds r t → WellFormed t × (written t ≡ sheet)
    said_so h = let same : s ≡ t = one_held r s t held h in (rw same at well, rw same at is)
accepted_when_written (Err f) sheet fault s = (λ none. absurd none, λ h. accepted_or_not sheet s f h.0 h.1 fault)

pub refused_by_its_fault : (answer : Result Sheet Fault) (sheet : Text) → ReadRightly answer sheet → RefusedByItsFault answer sheet
refused_by_its_fault (Ok r) sheet (s, held, well, is) f = (λ none. absurd none, λ h. accepted_or_not sheet s f well is h)
refused_by_its_fault (Err e) sheet fault f = (λ same. rw same at fault, λ h. one_fault sheet e f fault h)
