-- How many parentheses a text opens.
use Rattle.std.specs.Prelude.{ℕ, ◌+◌, ◌≤◌, List, [], ◌∷◌, map}
use Rattle.boogie_tree.specs.Tree.{Declaration}
use Rattle.boogie_parse.specs.declared.symbols.Fixed.{Fixed}
use Rattle.boogie_parse.specs.declared.symbols.Fixed.TheVariants as fixed
use Rattle.boogie_parse.specs.declared.symbols.Sign.{Sign}
use Rattle.boogie_parse.specs.declared.symbols.Sign.TheVariants as signs
use Rattle.boogie_parse.specs.Lexing.Symbols.{symbol}
use Rattle.boogie_parse.specs.Rules.GrammarLimits.{IsProgram}
use Rattle.boogie_parse.specs.Spelling.Spelled.{program_signs}
use Rattle.boogie_parse.specs.Spelling.Respelled.{signs_of}

-- one for an opening parenthesis
abbrev pub opens_one : Fixed → ℕ
opens_one fixed.OpenParenthesis = 1
opens_one f = 0

abbrev pub opened_by : Sign → ℕ
opened_by (signs.Fixed f) = opens_one f
opened_by s = 0

-- how many parentheses these signs open
abbrev pub opened_in : List Sign → ℕ
opened_in [] = 0
opened_in (s ∷ ss) = opened_by s + opened_in ss

-- The canonical text of a program opens no more parentheses than any text of that program. So none of its parentheses is superfluous: without it
-- the grammar reads another program.
abbrev pub ParenthesesAreNeeded : Type 0
ParenthesesAreNeeded =
    (text : List ℕ) (program : List Declaration) (is : IsProgram text program) → opened_in (program_signs program) ≤ opened_in (signs_of (map symbol is.tokens))
