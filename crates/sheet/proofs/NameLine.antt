-- What is read of a name's line.
-- Assumes nothing.
use Rattle.std.proofs.Common.{◌≡◌, ℕ, [], ◌∷◌, ◌++◌, Option}
use Rattle.sheet.specs.declared.fields.Field.{Field}
use Rattle.sheet.specs.declared.fields.Field.TheVariants.{Name}
use Rattle.sheet.specs.declared.lines.Line.{Line}
use Rattle.sheet.specs.declared.names.Names.{Names}
use Rattle.sheet.specs.declared.stretches.Stretch.{Stretch}
use Rattle.sheet.specs.Lines.{OnlyName}
use Rattle.sheet.specs.Names.{Named, field_text, fields_of, names_of}

-- A line's only field is a name; where no other is the same, it is taken last.
pub name_taken : (line : Option Line) (before after : Names) (f : Field) → (s : Stretch) × (f ≡ Name s) × OnlyName line s
    → ((c : ℕ) → Named (names_of before) (field_text f) c → ⊥) → fields_of after ≡ fields_of before ++ f ∷ []
    → (s : Stretch) × OnlyName line s × ((c : ℕ) → Named (names_of before) s.text.now c → ⊥) × (fields_of after ≡ fields_of before ++ Name s ∷ [])
name_taken line before after f (s, is, only) other taken = (s, only, rw is at other, rw is at taken)
