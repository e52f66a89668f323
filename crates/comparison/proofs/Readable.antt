-- The name of a cue can be read as text.
-- Assumes nothing.
use Rattle.std.proofs.Common.{◌≡◌, ℕ, ◌≤◌, inl, inr, List, [], length, Some, None, Option, MatchOption, All, Bor, sym, ap, ◌∙◌, arith}
use Rattle.std.specs.Option.{unwrap_or}
use Rattle.std.specs.List.{slice_get}
use Rattle.std.specs.Str.{IsAscii, IsUtf8}
use Rattle.std.proofs.lemmas.Bool.{cases_lt}
use Rattle.std.proofs.lemmas.List.{get_or_past}
use Rattle.std.proofs.lemmas.Option.{get_or_from_slice_get}
use Rattle.std.proofs.lemmas.Str.{IsUtf8-from_ascii}
use Rattle.sheet.specs.Names.{name_of}
use Rattle.sheet.specs.Text.{Text}

-- A name that is looked up, and the empty text where there is none.
looked_up : (names : List Text) (c : ℕ) (o : Option (Bor Text)) (d : Bor Text) → MatchOption o (length names ≤ c) (λ x. slice_get names c ≡ Some x.now) → d.now ≡ [] → (unwrap_or o d).now ≡ name_of names c
looked_up names c None d past e = e ∙ sym (get_or_past names c [] past)
looked_up names c (Some x) d there e = sym (get_or_from_slice_get names c x.now [] there)

pub name_is : (names : List Text) (c : ℕ) (o : Option (Bor Text)) (x d : Bor Text) → MatchOption o (length names ≤ c) (λ x. slice_get names c ≡ Some x.now) → d.now ≡ [] → x ≡ unwrap_or o d → x.now ≡ name_of names c
name_is names c o x d found e taken = ap (λ y. y.now) taken ∙ looked_up names c o d found e

-- The empty text is plain, and so is every name where all are.
plain_name : (names : List Text) (c : ℕ) → All IsAscii names → IsAscii (name_of names c)
plain_name names c plain = elim (cases_lt c (length names)) [ inl here ↦ plain c [] here | inr past ↦ rw (get_or_past names c [] past) (λ i. omega arith) ]

pub readable : (names : List Text) (c : ℕ) → All IsAscii names → IsUtf8 (name_of names c)
readable names c plain = IsUtf8-from_ascii (name_of names c) (plain_name names c plain)
