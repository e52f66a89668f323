-- The words of a sheet are in form.
-- Assumes nothing.
use Rattle.std.proofs.Common.{ℕ, Bool, ◌&&◌, ◌||◌, leb, eqb, IsTrue, length, refl, arith}
use Rattle.std.proofs.lemmas.Bool.{and_parts}
use Rattle.std.proofs.lemmas.Bool.Decides.{nat_tests}
use Rattle.std.proofs.lemmas.List.Elements.{All-weaker}
use Rattle.std.proofs.lemmas.List.Sums.{AllPass-from_list_all}
use Rattle.std.specs.List.{list_all}
use Rattle.rules.specs.declared.templates.Template.{Template}
use Rattle.rules.specs.Naming.{template_word}
use Rattle.rules.proofs.Every.{template_passes}
use Rattle.sheet.specs.Text.{Text, WordForm, InWord, hyphen}

-- The test of a word's form, for the checker to compute, and what it tells.
abbrev byte_test : ℕ → Bool
byte_test b = (leb 97 b && leb b 122) || eqb b hyphen

abbrev pub word_test : Text → Bool
word_test x = leb 1 (length x) && list_all byte_test x

pub word_form : (x : Text) → IsTrue (word_test x) → WordForm x
word_form x h =
    let some : IsTrue (leb 1 (length x)) = (and_parts _ _ h).0 in
    record { some = grind (arith, nat_tests); bytes = All-weaker (λ b. IsTrue (byte_test b)) InWord byte_form x (AllPass-from_list_all byte_test x (and_parts _ _ h).1) }
  where
    byte_form : (b : ℕ) → IsTrue (byte_test b) → InWord b
    byte_form b h = grind (arith, nat_tests)

-- The words of the templates pass it.
pub template_form : (t : Template) → WordForm (template_word t)
template_form t = word_form (template_word t) (template_passes (λ t. word_test (template_word t)) refl t)
