-- Reading whole texts.
use Rattle.std.specs.Prelude.{◌≡◌, ◌≢◌, ℕ, ◌<◌, ◌≤◌, List, ◌∷◌, ◌++◌, Result, Ok, Err, map}
use Rattle.std.specs.List.{AllByRecursion}
use Rattle.boogie_tree.specs.declared.span.Span.{Span}
use Rattle.boogie_tree.specs.declared.tree.Program.{Program}
use Rattle.boogie_tree.specs.Tree.{Declaration}
use Rattle.boogie_tree.specs.View.{program}
use Rattle.boogie_tree.specs.Places.{beginning}
use Rattle.boogie_parse.specs.declared.fault.Fault.{Fault}
use Rattle.boogie_parse.specs.declared.fault.Fault.TheVariants as faults
use Rattle.boogie_parse.specs.declared.fault.Which.{Which}
use Rattle.boogie_parse.specs.declared.fault.Which.TheVariants as limits
use Rattle.boogie_parse.specs.declared.lexer.token.Token.{Token}
use Rattle.boogie_parse.specs.declared.symbols.Symbol.{Symbol}
use Rattle.boogie_parse.specs.Lexing.Places.{behind}
use Rattle.boogie_parse.specs.Lexing.Lexed.{lexed}
use Rattle.boogie_parse.specs.Lexing.Symbols.{symbol}
use Rattle.boogie_parse.specs.Rules.GrammarProgram.{ReadsProgram, joined_groups}
use Rattle.boogie_parse.specs.Rules.GrammarLimits.{IsShallowDeclaration, variables_counted, procedures_counted, IsInGrammar}
use Rattle.boogie_parse.specs.Reading.ListReading.{expression_at}
use Rattle.boogie_parse.specs.Reading.ProgramReading.{program_at}

-- the place just past a text's end
abbrev pub text_end : List ℕ → Span
text_end text = behind text beginning

-- what tokens are read as: the program, or the first fault; a fault of the tokens comes before all others
abbrev pub read_tokens : Span → Result (List Token) Fault → Result (List Declaration) Fault
read_tokens end (Ok ts) = program_at (expression_at end) end 200 200 1000 1000 (map symbol ts)
read_tokens end (Err f) = Err f

-- what a text is read as: the program, or the first fault
abbrev pub read_text : List ℕ → Result (List Declaration) Fault
read_text text = read_tokens (text_end text) (lexed text)

-- the answer is that program, unless memory ran out
abbrev pub IsOrMemory : Result Program Fault → List Declaration → Type 0
IsOrMemory (Ok p) ds = program p ≡ ds
IsOrMemory (Err f) ds = f ≡ faults.Memory

-- the text is not in the grammar, however many parentheses and blocks may be open
abbrev pub IsOutside : List ℕ → Type 0
IsOutside text = (groups : List (List Declaration)) → IsInGrammar text groups → ⊥

-- what holds if the fault is one of syntax
abbrev pub IfSyntax : Fault → Type 0 → Type 0
IfSyntax (faults.Syntax line col) P = P
IfSyntax f P = Unit {0}

-- The program of these symbols, which the grammar gives, is past that limit. A limit on literals is one of the tokens, and of no program.
abbrev pub IsPast : Which → List Symbol → List (List Declaration) → Type 0
IsPast limits.Literal ts groups = ⊥
IsPast limits.Nesting ts groups = ReadsProgram 200 200 ts groups → AllByRecursion IsShallowDeclaration (joined_groups groups) → ⊥
IsPast limits.Procedures ts groups = 1000 < procedures_counted (joined_groups groups)
IsPast limits.Variables ts groups = AllByRecursion (λ ds. variables_counted ds ≤ 1000) groups → ⊥

-- The symbol in that line and column can stand there: some program of the grammar begins with the symbols up to it.
pub record CanStandAt (text : List ℕ) (line col : ℕ) : Type 0 where
  pub tokens : List Token
  pub lexical : lexed text ≡ Ok tokens
  pub before : List Symbol
  pub here : Symbol
  pub after : List Symbol
  pub parts : map symbol tokens ≡ before ++ here ∷ after
  pub line_is : here.span.line ≡ line
  pub col_is : here.span.col ≡ col
  pub more : List Symbol
  pub parentheses : ℕ
  pub blocks : ℕ
  pub groups : List (List Declaration)
  pub program : ReadsProgram parentheses blocks (before ++ here ∷ more) groups

-- That limit stands at a symbol of the text, in that line and column, which can stand there: each program of the grammar that begins with the symbols up
-- to this one, whatever follows it, is past the limit.
pub record IsLimitAt (text : List ℕ) (which : Which) (line col : ℕ) : Type 0 where
  pub tokens : List Token
  pub lexical : lexed text ≡ Ok tokens
  pub before : List Symbol
  pub here : Symbol
  pub after : List Symbol
  pub parts : map symbol tokens ≡ before ++ here ∷ after
  pub line_is : here.span.line ≡ line
  pub col_is : here.span.col ≡ col
  pub past : (more : List Symbol) (parentheses blocks : ℕ) (groups : List (List Declaration)) →
      ReadsProgram parentheses blocks (before ++ here ∷ more) groups → IsPast which (before ++ here ∷ more) groups
  pub stands : CanStandAt text line col

-- what holds if the fault is a limit that the grammar finds, of that kind and at that place
abbrev pub IfLimit : Fault → (Which → ℕ → ℕ → Type 0) → Type 0
IfLimit (faults.Limit limits.Literal line col) P = Unit {0}
IfLimit (faults.Limit which line col) P = P which line col
IfLimit f P = Unit {0}

-- what holds if the fault is one of the tokens: what is left out, and literals that are too large; what is no syntax may be of the grammar too
abbrev pub IfTokenFault : Fault → Type 0 → Type 0
IfTokenFault (faults.Unsupported what line col) P = P
IfTokenFault (faults.Limit limits.Literal line col) P = P
IfTokenFault f P = Unit {0}

-- What a fault says that a text is read with: it is no want of memory; Syntax comes only outside the grammar, a limit that the grammar finds only
-- where each program that begins so is past it, and any other fault only of the tokens.
pub record IsFaultOf (text : List ℕ) (f : Fault) : Type 0 where
  pub no_memory : f ≢ faults.Memory
  pub syntax : IfSyntax f (IsOutside text)
  pub limits : IfLimit f (IsLimitAt text)
  pub tokens : IfTokenFault f (lexed text ≡ Err f)
