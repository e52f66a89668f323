-- What templates are called, and which arguments they take.
-- Assumes nothing.
use Rattle.std.specs.Prelude.{◌≡◌, ℕ, List, Option, MatchOption, codes}
use Rattle.rules.specs.declared.templates.Template.{Template}
use Rattle.rules.specs.declared.templates.Template.TheVariants.{Existence, Absence, Exactly, Init, Last, RespondedExistence, CoExistence, Response, Precedence, Succession, AlternateResponse, AlternatePrecedence, AlternateSuccession, ChainResponse, ChainPrecedence, ChainSuccession, NotCoExistence, NotSuccession, NotChainSuccession, Choice, ExclusiveChoice}
use Rattle.rules.specs.declared.templates.Arguments.{Arguments}
use Rattle.rules.specs.declared.templates.Arguments.TheVariants.{CueAndCount, OneCue, TwoCues}

-- The published numbers of the templates.
abbrev pub template_number : Template → ℕ
template_number Existence = 1
template_number Absence = 2
template_number Exactly = 3
template_number Init = 4
template_number Last = 5
template_number RespondedExistence = 6
template_number CoExistence = 7
template_number Response = 8
template_number Precedence = 9
template_number Succession = 10
template_number AlternateResponse = 11
template_number AlternatePrecedence = 12
template_number AlternateSuccession = 13
template_number ChainResponse = 14
template_number ChainPrecedence = 15
template_number ChainSuccession = 16
template_number NotCoExistence = 17
template_number NotSuccession = 18
template_number NotChainSuccession = 19
template_number Choice = 20
template_number ExclusiveChoice = 21

-- How a number is answered: by the template that has it, or by none where no template does.
abbrev pub NumberedSo : Option Template → ℕ → Type 0
NumberedSo found number = MatchOption found ((t : Template) → template_number t ≡ number → ⊥) (λ t. template_number t ≡ number)

-- The words of the templates.
abbrev pub template_word : Template → List ℕ
template_word Existence = codes "existence"
template_word Absence = codes "absence"
template_word Exactly = codes "exactly"
template_word Init = codes "init"
template_word Last = codes "last"
template_word RespondedExistence = codes "responded-existence"
template_word CoExistence = codes "co-existence"
template_word Response = codes "response"
template_word Precedence = codes "precedence"
template_word Succession = codes "succession"
template_word AlternateResponse = codes "alternate-response"
template_word AlternatePrecedence = codes "alternate-precedence"
template_word AlternateSuccession = codes "alternate-succession"
template_word ChainResponse = codes "chain-response"
template_word ChainPrecedence = codes "chain-precedence"
template_word ChainSuccession = codes "chain-succession"
template_word NotCoExistence = codes "not-co-existence"
template_word NotSuccession = codes "not-succession"
template_word NotChainSuccession = codes "not-chain-succession"
template_word Choice = codes "choice"
template_word ExclusiveChoice = codes "exclusive-choice"

-- No two templates have one word.
unfoldable pub WordsToldApart : Type 0
WordsToldApart = (t u : Template) → template_word t ≡ template_word u → t ≡ u

-- Which arguments each template takes.
abbrev pub arguments_of : Template → Arguments
arguments_of Existence = CueAndCount
arguments_of Absence = CueAndCount
arguments_of Exactly = CueAndCount
arguments_of Init = OneCue
arguments_of Last = OneCue
arguments_of t = TwoCues
