-- When symbols with the signs of a canonical text are read again, as what the text was written from.
use Rattle.std.specs.Prelude.{◌≡◌, ℕ, negsuc, List, [], ◌∷◌, Ok, map}
use Rattle.std.specs.List.{AllByRecursion}
use Rattle.boogie_parse.specs.declared.symbols.Sign.{Sign}
use Rattle.boogie_parse.specs.declared.symbols.Sign.TheVariants as signs
use Rattle.boogie_parse.specs.declared.symbols.Symbol.{Symbol}
use Rattle.boogie_tree.specs.Tree.{Declaration}
use Rattle.boogie_tree.specs.Apart.{AreAlike}
use Rattle.boogie_parse.specs.declared.lexer.token.Token.{Token}
use Rattle.boogie_parse.specs.Lexing.Lexed.{lexed}
use Rattle.boogie_parse.specs.Lexing.Symbols.{symbol}
use Rattle.boogie_parse.specs.Rules.GrammarProgram.{ReadsProgram, joined_groups}
use Rattle.boogie_parse.specs.Rules.GrammarLimits.{IsProgram}
use Rattle.boogie_parse.specs.Spelling.ProgramSpelling.{Spells}
use Rattle.boogie_parse.specs.Spelling.Spelled.{program_signs}

abbrev pub signs_of : List Symbol → List Sign
signs_of ts = map (λ t. t.sign) ts

-- it is no number below 0: the sign of a token is none
abbrev pub IsUnsigned : Sign → Type 0
IsUnsigned (signs.Number (negsuc n)) = ⊥
IsUnsigned s = Unit {0}

abbrev pub AreUnsigned : List Symbol → Type 0
AreUnsigned ts = AllByRecursion (λ t. IsUnsigned t.sign) ts

-- each declaration in one of the text of its own
abbrev pub alone : List Declaration → List (List Declaration)
alone ds = map (λ d. d ∷ []) ds

-- The symbols are read as these declarations, apart from places.
pub record ReadsProgramAgain (p b : ℕ) (us : List Symbol) (ds : List Declaration) : Type 0 where
  pub again : List Declaration
  pub reads : ReadsProgram p b us (alone again)
  pub alike : AreAlike ds again

-- The symbols are this program, apart from places, and within the limits.
pub record SpellsAgain (p b v q : ℕ) (us : List Symbol) (program : List Declaration) : Type 0 where
  pub again : List Declaration
  pub spells : Spells p b v q us again
  pub alike : AreAlike program again

-- The text is this program, apart from places.
pub record IsProgramAgain (text : List ℕ) (program : List Declaration) : Type 0 where
  pub again : List Declaration
  pub is : IsProgram text again
  pub alike : AreAlike program again

-- Symbols with the signs of a program that was read are read as it, apart from places, with no more parentheses and blocks open.
abbrev pub ProgramsAreReadAgain : Type 0
ProgramsAreReadAgain =
    (p b : ℕ) (ts us : List Symbol) (groups : List (List Declaration)) → ReadsProgram p b ts groups → AreUnsigned ts →
    signs_of us ≡ program_signs (joined_groups groups) → ReadsProgramAgain p b us (joined_groups groups)

-- And they are so within the limits that it was within.
abbrev pub LimitsAreKept : Type 0
LimitsAreKept =
    (p b v q : ℕ) (ts us : List Symbol) (program : List Declaration) → Spells p b v q ts program → AreUnsigned ts →
    signs_of us ≡ program_signs program → SpellsAgain p b v q us program

-- So a text whose tokens have the signs of a program is that program, apart from places.
abbrev pub TextsAreReadAgain : Type 0
TextsAreReadAgain =
    (text other : List ℕ) (program : List Declaration) (tokens : List Token) → IsProgram text program → lexed other ≡ Ok tokens →
    map (λ t. (symbol t).sign) tokens ≡ program_signs program → IsProgramAgain other program
