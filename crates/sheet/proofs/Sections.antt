-- Sections, line by line: what a reader has gone past, what it has taken, and the fault that it meets.
-- Assumes nothing.
use Rattle.std.proofs.Common.{◌≡◌, ℕ, zero, suc, ◌+◌, ◌<◌, ◌≤◌, ◌⊎◌, inl, inr, List, [], ◌∷◌, ◌++◌, length, length-append, map, take, slice_get, Some, refl, sym, ap, ◌∙◌, append_assoc, arith}
use Rattle.std.proofs.lemmas.List.{append-nil, append_cancel_left, length-map, length-take-le, map-append, take-append-drop, take-append-le}
use Rattle.std.proofs.lemmas.List.Concat.{flat_map-append}
use Rattle.std.proofs.lemmas.List.Elements.{All-push}
use Rattle.std.proofs.Math.Seq.{take-append_seam}
use Rattle.std.specs.Prelude.{flat_map}
use Rattle.book.specs.Content.{Content}
use Rattle.book.specs.declared.drafts.Draft.{Draft}
use Rattle.book.specs.Draft.{draft_content, with_rule}
use Rattle.sheet.specs.declared.faults.Fault.{Fault}
use Rattle.sheet.specs.declared.fields.Field.{Field}
use Rattle.sheet.specs.declared.fields.Field.TheVariants.{Name}
use Rattle.sheet.specs.declared.names.Names.{Names}
use Rattle.sheet.specs.declared.reader.Reader.{Reader}
use Rattle.sheet.specs.Fault.{Due, NameDue, RuleDue}
use Rattle.sheet.specs.Names.{Named, Different, field_text, fields_of, names_of}
use Rattle.sheet.specs.Reader.{read_by, rest_for, Passes, FaultAfter, TakesName, TakesRule, Placed, NamesSoFar, NamesFault, RulesSoFar, BookFault}
use Rattle.sheet.specs.Sheet.{RuleRight, cues_word, cues_lines, section_line, name_line, rule_line}
use Rattle.sheet.specs.Text.{Text, NameForm, written_line}

-- A reader past lines and then past others is past all of them.
pub on : {ls ms : List (List Text)} {a b c : Reader} → Passes ls a b → Passes ms b c → Passes (ls ++ ms) a c
on {ls} {ms} {a} h k = record {
  sheet = k.sheet ∙ h.sheet;
  read = k.read ∙ ap (λ x. x ++ flat_map written_line ms) h.read ∙ append_assoc (read_by a) _ _ ∙ ap (λ x. read_by a ++ x) (sym (flat_map-append written_line ls ms));
  line = omega (arith, h.line, k.line, length-append ls ms);
}

-- What was left to a reader is the lines that it is past and what is left to it now.
pub rest_is : {ls : List (List Text)} {a b : Reader} → Passes ls a b → rest_for a ≡ flat_map written_line ls ++ rest_for b
rest_is {ls} {a} {b} h = append_cancel_left (read_by a) _ _
    (take-append-drop a.at a.sheet.now ∙ sym h.sheet ∙ sym (take-append-drop b.at b.sheet.now) ∙ ap (λ x. x ++ rest_for b) h.read ∙ append_assoc (read_by a) _ _)

-- A fault that a reader meets past lines is one after those lines.
pub later : {ls ms : List (List Text)} {d : Due} {a b : Reader} {f : Fault} → Passes ls a b → FaultAfter ms d b f → FaultAfter (ls ++ ms) d a f
later {ls} {ms} h k = record {
  rest = k.rest;
  stands = rest_is h ∙ ap (λ x. flat_map written_line ls ++ x) k.stands ∙ sym (append_assoc _ _ k.rest) ∙ ap (λ x. x ++ k.rest) (sym (flat_map-append written_line ls ms));
  line = omega (arith, h.line, k.line, length-append ls ms);
  fails = k.fails;
}

-- Where a reader is, by the bytes of the lines that it is past.
pub reached : {ls : List (List Text)} {a b : Reader} → Passes ls a b → b.at ≡ a.at + length (flat_map written_line ls)
reached {ls} {a} {b} h =
    sym (length-take-le b.at b.sheet.now b.inside) ∙ ap length h.read ∙ length-append (read_by a) _ ∙ ap (λ n. n + length (flat_map written_line ls)) (length-take-le a.at a.sheet.now a.inside)

-- What stands in a list with one more stands in the list, or is that one.
at_last : {X : Type 0} (xs : List X) (x y : X) (c : ℕ) → slice_get (xs ++ x ∷ []) c ≡ Some y → ((c < length xs) × (slice_get xs c ≡ Some y)) ⊎ ((c ≡ length xs) × (y ≡ x))
at_last [] x y zero e = inr (refl, cc)
at_last [] x y (suc c) e = absurd cc
at_last (z ∷ xs) x y zero e = inl (omega arith, e)
at_last (z ∷ xs) x y (suc c) e = elim (at_last xs x y c e) [ inl there ↦ inl (omega (arith, there.0), there.1) | inr here ↦ inr (omega (arith, here.0), here.1) ]

-- A name that none of others is differs from all of them.
one_more : (xs : List Text) (x : Text) → Different xs → ((c : ℕ) → Named xs x c → ⊥) → Different (xs ++ x ∷ [])
one_more xs x apart other c d z (u, at_c, same_c) (v, at_d, same_d) = both (at_last xs x u c at_c) (at_last xs x v d at_d)
  where
    both : ((c < length xs) × (slice_get xs c ≡ Some u)) ⊎ ((c ≡ length xs) × (u ≡ x)) → ((d < length xs) × (slice_get xs d ≡ Some v)) ⊎ ((d ≡ length xs) × (v ≡ x)) → c ≡ d
    both (inl h) (inl k) = apart c d z (u, h.1, same_c) (v, k.1, same_d)
    both (inl h) (inr k) = absurd (other c (u, h.1, sym (same_d ∙ k.1) ∙ same_c))
    both (inr h) (inl k) = absurd (other d (v, k.1, sym (same_c ∙ h.1) ∙ same_d))
    both (inr h) (inr k) = h.0 ∙ sym k.0

-- One name more.
module _ (n : ℕ) (before mid after : Reader) (ns more : Names) (fs : List Text) (h : NamesSoFar n before mid ns) (room : length (names_of ns) < n) (t : TakesName mid ns more fs)
    (p : Passes (fs ∷ []) mid after) where
  now : names_of more ≡ names_of ns ++ t.name.text.now ∷ []
  now = ap (map field_text) t.taken ∙ map-append field_text (fields_of ns) _

  lines_now : cues_lines n (names_of more) ≡ cues_lines n (names_of ns) ++ fs ∷ []
  lines_now = ap (cues_lines n) now ∙ ap (λ ls. section_line cues_word n ∷ ls) (map-append name_line (names_of ns) _ ∙ ap (λ g. map name_line (names_of ns) ++ g ∷ []) (sym t.reads))

  long : length (fields_of ns) ≡ length (names_of ns)
  long = sym (length-map (fields_of ns) field_text)

  -- The names before one are those before it without the last.
  before_it : (c : ℕ) → c ≤ length (names_of ns) → take c (names_of more) ≡ take c (names_of ns)
  before_it c low = ap (take c) now ∙ take-append-le c (names_of ns) _ low

  all_before : (c : ℕ) → c ≡ length (names_of ns) → take c (names_of more) ≡ names_of ns
  all_before c e = rw (e, now) (take-append_seam (names_of ns) _)

  placed : (c : ℕ) (f : Field) → ((c < length (fields_of ns)) × (slice_get (fields_of ns) c ≡ Some f)) ⊎ ((c ≡ length (fields_of ns)) × (f ≡ Name t.name)) → Placed before n (names_of more) c f
  placed c f (inl there) = let (s, is, line, at) = h.places c f there.1 in (s, is, line, rw (before_it c (omega (arith, there.0, long))) at)
  placed c f (inr here) = (t.name, here.1, omega (arith, t.line, h.passes.line, here.0, long, length-map (names_of ns) name_line), rw (all_before c (omega (arith, here.0, long))) (t.at ∙ reached h.passes))

  pub names_next : NamesSoFar n before after more
  names_next = record {
    order = rw now (record {
      some = h.order.some;
      few = h.order.few;
      room = omega (arith, length-append (names_of ns) (t.name.text.now ∷ []), room);
      forms = All-push NameForm (names_of ns) t.name.text.now h.order.forms t.form;
      different = one_more (names_of ns) t.name.text.now h.order.different t.other;
    });
    passes = rw lines_now (on h.passes p);
    places = λ c f e. placed c f (at_last (fields_of ns) (Name t.name) f c (rw t.taken at e));
  }

-- A fault in the next line is one of the section.
pub names_fault : (n : ℕ) (before mid : Reader) (ns : Names) (f : Fault) → NamesSoFar n before mid ns → length (names_of ns) < n → FaultAfter [] (NameDue (names_of ns)) mid f → NamesFault before f
names_fault n before mid ns f h room k = inr (n, names_of ns, h.order, room, rw (append-nil _) at (later h.passes k))

-- One rule more.
pub rules_next : (word : Text) (names : List Text) (n : ℕ) (before mid after : Reader) (d more : Draft) (fs : List Text) (h : RulesSoFar word names n before mid d)
    → length (draft_content d).rules < n → TakesRule names d more fs → Passes (fs ∷ []) mid after → RulesSoFar word names n before after more
rules_next word names n before mid after d more fs h room t p =
    let held : (draft_content d).rules ≡ h.rules = ap (λ (c : Content). c.rules) h.content in
    record {
      rules = h.rules ++ t.rule ∷ [];
      order = record { few = h.order.few; room = omega (arith, length-append h.rules (t.rule ∷ []), ap length held, room); right = All-push (RuleRight (length names)) h.rules t.rule h.order.right t.right };
      passes = rw (map-append (rule_line names) h.rules (t.rule ∷ []), ← t.reads) (on h.passes p);
      content = t.rules ∙ ap (λ c. with_rule c t.rule) h.content;
    }

-- A fault in the next line is one of the section.
pub rules_fault : (word : Text) (names : List Text) (n : ℕ) (before mid : Reader) (d : Draft) (f : Fault) → RulesSoFar word names n before mid d → length (draft_content d).rules < n
    → FaultAfter [] (RuleDue names (draft_content d).rules) mid f → BookFault word names before f
rules_fault word names n before mid d f h room k =
    let held : (draft_content d).rules ≡ h.rules = ap (λ (c : Content). c.rules) h.content in
    inr (n, h.rules, h.order, omega (arith, ap length held, room), rw (append-nil _) at (later h.passes (rw held at k)))
