-- How a small sheet is written, and where names stand in any.
-- Assumes nothing.
use Rattle.std.proofs.Common.{◌≡◌, ℕ, zero, suc, ◌≤◌, ◌↔◌, List, [], ◌∷◌, ◌++◌, length, Some, None, Option, map, take, slice_get, flat_map, refl, sym, ap, ◌∙◌, append_assoc, subst, unwrap_or, arith, rules, Result, Ok, Err, IsOk, IfOk, IsSome, IfSome, MatchOption, option_map}
use Rattle.std.proofs.lemmas.Option.{slice_get-map, slice_get_within}
use Rattle.std.proofs.lemmas.Fmt.{decimal_digit}
use Rattle.std.proofs.lemmas.List.{length-map}
use Rattle.std.proofs.lemmas.List.Concat.{flat_map-append}
use Rattle.sheet.specs.declared.faults.Fault.{Fault}
use Rattle.sheet.specs.declared.fields.Field.{Field}
use Rattle.sheet.specs.declared.sheets.Sheet.{Sheet}
use Rattle.sheet.specs.Names.{Different, names_of, fields_of, field_text, field_at}
use Rattle.sheet.specs.Reading.{Accepts, Holds, HoldsWritten, InItsLine, AcceptedWhenWritten, ReadRightly}
use Rattle.sheet.specs.Sheet.{Comparison, InCues, begins, written, WellFormed, cues_word, section_line, name_line, cues_lines, book_lines, left_word, right_word}
use Rattle.sheet.specs.Text.{Text, NameForm, written_line}
use Rattle.clients.specs.Sheets.{one_cue_text, IsOneCue, HasNameAt, NamesCue}

-- What the sheet of one cue says.
abbrev pub one_cue : Text → Comparison
one_cue name = record { names = name ∷ []; left = []; right = [] }

-- It is written byte by byte as it is laid out.
pub one_cue_written : (name : Text) → written (one_cue name) ≡ one_cue_text name
one_cue_written name = simp (append_assoc, decimal_digit 1 (omega arith), decimal_digit 0 (omega arith))

-- No other cue has the name.
one_name : (name : Text) → Different (name ∷ [])
one_name name zero zero x p q = refl
one_name name zero (suc d) x p (y, e, same) = absurd (cc e)
one_name name (suc c) d x (y, e, same) q = absurd (cc e)

-- And it is well formed, where the name is in form.
pub one_cue_formed : (name : Text) → NameForm name → WellFormed (one_cue name)
one_cue_formed name form = (
  record { some = omega arith; few = omega arith; room = omega arith; forms = Prim.search rules; different = one_name name },
  record { few = omega arith; room = omega arith; right = Prim.search rules },
  record { few = omega arith; room = omega arith; right = Prim.search rules },
)

-- The lines of names, as they are written.
abbrev name_lines : List Text → Text
name_lines names = flat_map written_line (map name_line names)

-- Behind the names before it a name stands, with its line end.
in_lines : (names : List Text) (c : ℕ) (x : Text) → slice_get names c ≡ Some x → (after : Text) × (name_lines names ≡ name_lines (take c names) ++ (x ++ 10 ∷ after))
in_lines [] c x there = absurd (cc there)
in_lines (y ∷ names) zero x there = let is : y ≡ x = ap (λ o. unwrap_or o y) there in (name_lines names, rw is (simp append_assoc))
in_lines (y ∷ names) (suc c) x there = let (after, e) = in_lines names c x there in (after, rw e (simp append_assoc))

-- What stands in a part of a text stands in the text.
in_whole : (head names front x after rest : Text) → names ≡ front ++ (x ++ 10 ∷ after) → (head ++ names) ++ rest ≡ (head ++ front) ++ (x ++ 10 ∷ (after ++ rest))
in_whole head names front x after rest e = rw e (simp append_assoc)

-- So it stands in the whole sheet behind all lines before it.
pub stands_there : (s : Comparison) (c : ℕ) (x : Text) → slice_get s.names c ≡ Some x → HasNameAt (written s) (length (begins (InCues (length s.names) (take c s.names)))) x
stands_there s c x there =
    let (after, e) = in_lines s.names c x there in
    let cues = cues_lines (length s.names) s.names in
    let left = book_lines left_word s.names (length s.left) s.left in
    let right = book_lines right_word s.names (length s.right) s.right in
    let split : written s ≡ flat_map written_line cues ++ (flat_map written_line left ++ flat_map written_line right) =
    flat_map-append written_line (cues ++ left) right ∙ ap (λ t. t ++ flat_map written_line right) (flat_map-append written_line cues left)
    ∙ append_assoc (flat_map written_line cues) (flat_map written_line left) (flat_map written_line right) in (
      begins (InCues (length s.names) (take c s.names)),
      after ++ (flat_map written_line left ++ flat_map written_line right),
      split ∙ in_whole (written_line (section_line cues_word (length s.names))) (name_lines s.names) (name_lines (take c s.names)) x after _ e,
      refl,
    )

-- A part of the sheet in which the name of a cue is read stands there.
pub field_there : (r : Sheet) (sheet : Text) (c : ℕ) (o : Option Field) → HoldsWritten r sheet
    → MatchOption o (length (fields_of r.names) ≤ c) (λ f. slice_get (fields_of r.names) c ≡ Some f) → IfSome o (λ f. HasNameAt sheet (field_at f) (field_text f))
field_there r sheet c None held found = tt
field_there r sheet c (Some f) (s, holds, formed, is) found =
    let (part, name, line, at) = holds.places c f found in
    let named : slice_get s.names c ≡ Some (field_text f) = rw (← holds.names) (slice_get-map field_text (fields_of r.names) c ∙ ap (λ o. option_map field_text o) found) in
    let at' : field_at f ≡ length (begins (InCues (length s.names) (take c s.names))) = ap field_at name ∙ at in
    subst (λ t. HasNameAt t (field_at f) (field_text f)) is
    (subst (λ n. HasNameAt (written s) n (field_text f)) (sym at') (stands_there s c (field_text f) named))

-- As many fields stand in a sheet as was read as it names cues.
as_many : (r : Sheet) (s : Comparison) → names_of r.names ≡ s.names → length (fields_of r.names) ≡ length s.names
as_many r s e = sym (length-map (fields_of r.names) field_text) ∙ ap length e

-- So there is a field for just the cues that are named.
pub field_if_named : (r : Sheet) (sheet : Text) (c : ℕ) (o : Option Field) → HoldsWritten r sheet → AcceptedWhenWritten (Ok r) sheet
    → MatchOption o (length (fields_of r.names) ≤ c) (λ f. slice_get (fields_of r.names) c ≡ Some f) → IsSome o ↔ NamesCue sheet c
field_if_named r sheet c None held when few = (
  λ h. absurd (cc h),
  λ (s, formed, is, named). absurd (omega (arith, few, named, as_many r s ((when s).1 (formed, is)).names)),
)
field_if_named r sheet c (Some f) (s, holds, formed, is) when found = (
  λ h. (s, formed, is, let low = slice_get_within (fields_of r.names) c f found in omega (arith, low, as_many r s holds.names)),
  λ h. refl,
)

-- What is accepted is read.
pub is_read : (answer : Result Sheet Fault) (s : Comparison) → Accepts answer s → IsOk answer
is_read (Ok r) s accepts = refl
is_read (Err f) s accepts = absurd accepts

-- What is read of the sheet of one cue is just that.
pub is_one_cue : (answer : Result Sheet Fault) (name : Text) → Accepts answer (one_cue name) → IfOk answer (IsOneCue name)
is_one_cue (Ok r) name holds = record { names = holds.names; left = holds.left; right = holds.right }
is_one_cue (Err f) name accepts = absurd accepts

-- A sheet that is read as that of one cue holds what that says.
holds_one_cue : (r : Sheet) (sheet name : Text) → HoldsWritten r sheet → IsOneCue name r → Holds r (one_cue name)
holds_one_cue r sheet name (s, held, formed, is) read = record {
  names = read.names;
  places = subst (λ names. (c : ℕ) (f : Field) → slice_get (fields_of r.names) c ≡ Some f → InItsLine names c f) (sym held.names ∙ read.names) held.places;
  left = read.left;
  right = read.right;
}

-- So it was laid out as that.
pub laid_out_so : (answer : Result Sheet Fault) (sheet : Text) → ReadRightly answer sheet → AcceptedWhenWritten answer sheet → IfOk answer (λ r. (name : Text) → IsOneCue name r → sheet ≡ one_cue_text name)
laid_out_so (Ok r) sheet held told = λ name read. sym ((told (one_cue name)).0 (holds_one_cue r sheet name held read)).1 ∙ one_cue_written name
laid_out_so (Err f) sheet fault told = tt

-- What is written so is as long.
pub as_long : (sheet : Text) (s : Comparison) (most : ℕ) → written s ≡ sheet → length (written s) ≤ most → length sheet ≤ most
as_long sheet s most is = subst (λ t. length t ≤ most) is
