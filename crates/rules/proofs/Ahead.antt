-- What matters of the rest of a word to a template without a count, and what each of its states asks of it.
-- Assumes nothing.
use Rattle.std.proofs.Common.{ℕ, Bool, true, false, not, ◌&&◌, ◌||◌, List, [], ◌∷◌, ◌++◌, slice_index_or}
use Rattle.std.specs.Bool.{beq}
use Rattle.rules.specs.declared.letters.Letter.{Letter}
use Rattle.rules.specs.declared.letters.Letter.TheVariants.{A, B}
use Rattle.rules.specs.declared.templates.Template.{Template}
use Rattle.rules.specs.declared.templates.Template.TheVariants.{Init, Last, RespondedExistence, CoExistence, Response, Precedence, Succession, AlternateResponse, AlternatePrecedence, AlternateSuccession, ChainResponse, ChainPrecedence, ChainSuccession, NotCoExistence, NotSuccession, NotChainSuccession, Choice, ExclusiveChoice}
use Rattle.rules.specs.Word.{Word}

-- Gaps: which letters may stand between an A and a B.
abbrev pub any : Letter → Bool
any l = true

abbrev pub no_a : Letter → Bool
no_a A = false
no_a l = true

abbrev pub no_b : Letter → Bool
no_b B = false
no_b l = true

abbrev pub none : Letter → Bool
none l = false

-- What may stand between an A and the B that answers it.
abbrev pub gap_after : Template → Letter → Bool
gap_after AlternateResponse = no_a
gap_after AlternateSuccession = no_a
gap_after ChainResponse = none
gap_after ChainSuccession = none
gap_after NotChainSuccession = none
gap_after t = any

-- What may stand between a B and the A that it needs before it.
abbrev pub gap_before : Template → Letter → Bool
gap_before AlternatePrecedence = no_b
gap_before AlternateSuccession = no_b
gap_before ChainPrecedence = none
gap_before ChainSuccession = none
gap_before t = any

-- Whether every A wants an answer, or none may have one.
abbrev pub wanted : Template → Bool
wanted NotSuccession = false
wanted NotChainSuccession = false
wanted t = true

-- What matters of the rest of a word.
pub record Ahead : Type 0 where
  pub empty : Bool
  pub a_first : Bool
  pub a_last : Bool
  pub some_a : Bool
  -- a B stands, with only letters of the gap in front of it
  pub b_next : Bool
  -- every A is answered by such a B, or none is, as is wanted
  pub answered : Bool
  -- every B has the A that it needs before it; every B has, when an A stands in front of the rest
  pub preceded : Bool
  pub preceded_behind : Bool

abbrev pub preceded_from : Ahead → Bool → Bool
preceded_from r true = r.preceded_behind
preceded_from r false = r.preceded

-- Nothing is left of the word.
abbrev pub nothing : Ahead
nothing = record { empty = true; a_first = false; a_last = false; some_a = false; b_next = false; answered = true; preceded = true; preceded_behind = true }

-- With one more letter in front. An A may stand before that letter, as x tells; then the letter tells whether one stands behind it.
abbrev pub preceded_in_front : Template → Letter → Ahead → Bool → Bool
preceded_in_front t l r x = (no_b l || x) && preceded_from r (not (no_a l) || (x && gap_before t l))

abbrev pub in_front : Template → Letter → Ahead → Ahead
in_front t l r = record {
  empty = false;
  a_first = not (no_a l);
  a_last = (r.empty && not (no_a l)) || r.a_last;
  some_a = not (no_a l) || r.some_a;
  b_next = not (no_b l) || (gap_after t l && r.b_next);
  answered = (no_a l || beq r.b_next (wanted t)) && r.answered;
  preceded = preceded_in_front t l r false;
  preceded_behind = preceded_in_front t l r true;
}

abbrev pub ahead : Template → Word → Ahead
ahead t [] = nothing
ahead t (l ∷ w) = in_front t l (ahead t w)

-- What the states of the templates that speak of every A or of every B ask: at 0 nothing stands open; at 1 an A stands in front.
abbrev answering : Ahead → List Bool
answering r = r.answered ∷ (r.answered && r.b_next) ∷ []

abbrev forbidding : Ahead → List Bool
forbidding r = r.answered ∷ (r.answered && not r.b_next) ∷ []

abbrev preceding : Ahead → List Bool
preceding r = r.preceded ∷ r.preceded_behind ∷ []

abbrev succeeding : Ahead → List Bool
succeeding r = (r.answered && r.preceded) ∷ (r.answered && r.b_next && r.preceded_behind) ∷ []

-- What each state of a template asks of the rest, one after the other.
abbrev pub asks : Template → Ahead → List Bool
asks Init r = (r.empty || r.a_first) ∷ true ∷ []
asks Last r = (r.empty || r.a_last) ∷ r.a_last ∷ []
asks RespondedExistence r = (not r.some_a || r.b_next) ∷ r.b_next ∷ true ∷ []
asks CoExistence r = beq r.some_a r.b_next ∷ r.b_next ∷ r.some_a ∷ true ∷ []
asks Response r = answering r
asks Precedence r = preceding r
-- at 2 a B came too early; at 3 an A stands in front, and none stands open
asks Succession r = succeeding r ++ false ∷ (r.answered && r.preceded_behind) ∷ []
asks AlternateResponse r = answering r
asks AlternatePrecedence r = preceding r
asks AlternateSuccession r = succeeding r
asks ChainResponse r = answering r
asks ChainPrecedence r = preceding r
asks ChainSuccession r = succeeding r
asks NotCoExistence r = not (r.some_a && r.b_next) ∷ not r.b_next ∷ not r.some_a ∷ []
asks NotSuccession r = forbidding r
asks NotChainSuccession r = forbidding r
asks Choice r = (r.some_a || r.b_next) ∷ true ∷ []
asks ExclusiveChoice r = not (beq r.some_a r.b_next) ∷ not r.b_next ∷ not r.some_a ∷ []
asks t r = []

-- A state that is left out there asks what no rest has.
abbrev pub asked : Template → Ahead → ℕ → Bool
asked t r s = slice_index_or (asks t r) s false
