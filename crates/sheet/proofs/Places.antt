-- Names in places, and numbers of templates.
-- Assumes nothing.
use Rattle.std.proofs.Common.{◌≡◌, ◌⊎◌, inl, inr, ℕ, ◌+◌, ◌<◌, List, length, sym, arith, rules}
use Rattle.std.proofs.lemmas.List.{length-take-le}
use Rattle.std.proofs.lemmas.Option.{slice_get_within}
use Rattle.rules.specs.declared.templates.Template.{Template}
use Rattle.rules.specs.Naming.{template_number}
use Rattle.sheet.specs.declared.names.Names.{Names}
use Rattle.sheet.specs.Names.{Named, fields_of}
use Rattle.sheet.specs.Text.{Text}

-- No two templates have one number.
pub one_number : (t u : Template) → template_number t ≡ template_number u → t ≡ u
one_number = Prim.search rules

-- There are as many fields as are counted.
pub fields_long : (ns : Names) → length (fields_of ns) ≡ ns.count
fields_long ns = length-take-le ns.count ns.fields (omega (arith, ns.places, ns.few))

-- A cue that has a name is below the cue count.
pub cue_below : (names : List Text) (x : Text) (c : ℕ) → Named names x c → c < length names
cue_below names x c named = slice_get_within names c named.0 named.1

-- What is so of no number below another and not of that one is so of none below the next.
pub below_next : (P : ℕ → Type 0) (n : ℕ) → ((c : ℕ) → c < n → P c → ⊥) → (P n → ⊥) → (c : ℕ) → c < n + 1 → P c → ⊥
below_next P n below here c low p =
    let here_or_below : (c ≡ n) ⊎ (c < n) = Prim.grind (arith, low) in
    elim here_or_below [ inl e ↦ here (rw (sym e) p) | inr before ↦ below c before p ]
