-- Rules' lines, and what comes of them.
-- Assumes nothing.
use Rattle.std.specs.Prelude.{◌≡◌, ℕ, List, ◌∷◌, length, Option, Some, Result, MatchResult, min}
use Rattle.rules.specs.declared.templates.Arguments.TheVariants.{CueAndCount}
use Rattle.rules.specs.declared.templates.Template.{Template}
use Rattle.rules.specs.Form.{kept_b, kept_n}
use Rattle.rules.specs.Naming.{template_word, arguments_of}
use Rattle.rules.specs.Rule.{Terms}
use Rattle.book.specs.declared.drafts.Draft.{Draft}
use Rattle.book.specs.Draft.{draft_content, with_rule}
use Rattle.sheet.specs.declared.faults.ReaderRefusal.{ReaderRefusal}
use Rattle.sheet.specs.declared.faults.Refusal.{Refusal}
use Rattle.sheet.specs.declared.faults.Refusal.TheVariants.{Reader}
use Rattle.sheet.specs.declared.rule_lines.Asked.{Asked}
use Rattle.sheet.specs.Fault.{IsArguments, AreNames, RuleFails}
use Rattle.sheet.specs.Sheet.{RuleRight, rule_line}
use Rattle.sheet.specs.Text.{Text}

-- The line asks to add a rule of template t with cues a and b and count k: a count above 255 is told as 255, and what the template
-- lacks is 0.
pub record AsksFor (names : List Text) (line : Option (List Text)) (t : Template) (a b k : ℕ) : Type 0 where
  pub fs : List Text
  pub x : Text
  pub y : Text
  pub n : ℕ
  pub reads : line ≡ Some (template_word t ∷ fs)
  pub arguments : IsArguments (arguments_of t) fs x y n
  pub named : AreNames names (arguments_of t) x y a b
  pub counted : arguments_of t ≡ CueAndCount → k ≡ min n 255
  pub no_b : b ≡ kept_b (arguments_of t) b
  pub no_k : k ≡ kept_n (arguments_of t) k

-- Reading what a rule's line asks to add; or why the reader turns it down, whatever rules stand before it.
abbrev pub ReadAsked : Result Asked ReaderRefusal → List Text → Option (List Text) → Type 0
ReadAsked answer names line = MatchResult answer
    (λ k. AsksFor names line k.template k.a k.b k.n)
    (λ e. (rules : List Terms) → RuleFails names rules line (Reader e))

-- Reading a rule's line: the rule, put last in the draft; or why it fails, and the draft is as it was.
abbrev pub ReadRule : Result Unit Refusal → List Text → Option (List Text) → Draft → Draft → Type 0
ReadRule answer names line before after = MatchResult answer
    (λ _. (r : Terms) × RuleRight (length names) r × (line ≡ Some (rule_line names r)) × (draft_content after ≡ with_rule (draft_content before) r))
    (λ e. RuleFails names (draft_content before).rules line e × (after ≡ before))
