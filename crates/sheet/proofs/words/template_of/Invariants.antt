use Rattle.std.proofs.Common.{◌≡◌, ◌<◌}
use Rattle.rules.specs.declared.templates.Template.{Template}
use Rattle.rules.specs.Naming.{template_number, template_word}
use Rattle.sheet.proofs.words.template_of.Given as goal

abbrev pub invariant-loop-number : goal.invariant-loop-number
invariant-loop-number l = (t : Template) → template_number t < l.number → l.word ≡ template_word t → ⊥
