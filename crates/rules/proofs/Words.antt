-- No two templates have one word.
-- Assumes nothing.
use Rattle.std.proofs.Common.{◌≡◌, ℕ, List, Option, Some, refl, sym, ◌∙◌, ap}
use Rattle.std.specs.List.{find}
use Rattle.std.specs.Str.{bytes_eq}
use Rattle.rules.specs.declared.templates.Template.{Template}
use Rattle.rules.specs.declared.templates.Template.TheVariants.{Existence}
use Rattle.rules.specs.Naming.{template_word, WordsToldApart}
use Rattle.rules.proofs.Every.{templates}

-- The template of a word, looked up among all.
abbrev looked_up : List ℕ → Option Template
looked_up w = find (λ t. bytes_eq (template_word t) w) templates

found : (t : Template) → looked_up (template_word t) ≡ Some t
found Existence = refl
found t = refl

pub words_apart : WordsToldApart
unfolding WordsToldApart
words_apart t u e = let h : Some t ≡ Some u = sym (found t) ∙ ap looked_up e ∙ found u in cc
