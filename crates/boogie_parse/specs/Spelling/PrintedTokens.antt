-- When a program can be written as a text: its names are names of the language, and its literals are in range. The text has the signs of the program.
use Rattle.std.specs.Prelude.{◌≡◌, ℕ, ◌^◌, ◌<◌, ℤ, pos, negsuc, Bool, true, false, not, List, [], ◌∷◌, Option, None, Some, Ok, map}
use Rattle.std.specs.List.{AllByRecursion, list_all}
use Rattle.boogie_tree.specs.declared.tree.Name.{Name}
use Rattle.boogie_tree.specs.declared.tree.Vary.{Vary}
use Rattle.boogie_tree.specs.Tree.{Expression, Lit, Truth, Var, Old, Not, Neg, Bin, Guard, Any, Cond, Invariant, Statement, Assert, Assume, Havoc, Assign, Call, If, While, Break, Goto, Return, Label, Block, Empty, Then, Specification, Requires, Ensures, Modifies, ProcedureBody, Procedure, Declaration, Const, Global, Axiom, Declares, Implements}
use Rattle.boogie_tree.specs.Printing.{program_text}
use Rattle.boogie_tree.specs.Names.{is_digit, is_name_byte}
use Rattle.boogie_parse.specs.declared.token.TokenKind.TheVariants as kinds
use Rattle.boogie_parse.specs.declared.lexer.token.Token.{Token}
use Rattle.boogie_parse.specs.declared.symbols.Sign.TheVariants as signs
use Rattle.boogie_parse.specs.Lexing.Lexed.{lexed, beside_text, left_out}
use Rattle.boogie_parse.specs.Lexing.Symbols.{sign_of, symbol}
use Rattle.boogie_parse.specs.Spelling.Spelled.{program_signs}

-- one byte or more, and the first is no digit
abbrev pub begins_word : List ℕ → Bool
begins_word [] = false
begins_word (b ∷ bs) = not (is_digit b)

-- a word that is not fixed and belongs to no part that is left out
pub record IsFreeWord (text : List ℕ) : Type 0 where
  pub begins : begins_word text ≡ true
  pub bytes : list_all is_name_byte text ≡ true
  pub free : sign_of kinds.Word text ≡ signs.Name text
  pub supported : beside_text text left_out ≡ None

abbrev pub AreNames : List Name → Type 0
AreNames xs = AllByRecursion (λ (x : Name). IsFreeWord x.text) xs

-- from 0 to 2^127-1
abbrev pub IsLiteral : ℤ → Type 0
IsLiteral (pos n) = n < 2 ^ 127
IsLiteral (negsuc n) = ⊥

-- the expression's names are names, and its literals are in range
abbrev pub IsSpellable : Expression → Type 0
IsSpellable (Lit s n) = IsLiteral n
IsSpellable (Truth s b) = Unit {0}
IsSpellable (Var s x) = IsFreeWord x.text
IsSpellable (Old s e) = IsSpellable e
IsSpellable (Not s e) = IsSpellable e
IsSpellable (Neg s e) = IsSpellable e
IsSpellable (Bin s op a b) = IsSpellable a × IsSpellable b

abbrev pub AreSpellable : List Expression → Type 0
AreSpellable es = AllByRecursion IsSpellable es

abbrev pub IsSpellableGuard : Guard → Type 0
IsSpellableGuard Any = Unit {0}
IsSpellableGuard (Cond e) = IsSpellable e

abbrev pub IsSpellableLabel : Option Name → Type 0
IsSpellableLabel None = Unit {0}
IsSpellableLabel (Some x) = IsFreeWord x.text

abbrev pub AreSpellableInvariants : List Invariant → Type 0
AreSpellableInvariants is = AllByRecursion (λ (i : Invariant). IsSpellable i.cond) is

abbrev mutual
  pub IsSpellableStatement : Statement → Type 0
  IsSpellableStatement (Assert s e) = IsSpellable e
  IsSpellableStatement (Assume s e) = IsSpellable e
  IsSpellableStatement (Havoc s xs) = AreNames xs
  IsSpellableStatement (Assign s xs es) = AreNames xs × AreSpellable es
  IsSpellableStatement (Call s xs f es) = AreNames xs × IsFreeWord f.text × AreSpellable es
  IsSpellableStatement (If s g a b) = IsSpellableGuard g × IsSpellableBlock a × IsSpellableBlock b
  IsSpellableStatement (While s g is b) = IsSpellableGuard g × AreSpellableInvariants is × IsSpellableBlock b
  IsSpellableStatement (Break s x) = IsSpellableLabel x
  IsSpellableStatement (Goto s xs) = AreNames xs
  IsSpellableStatement (Return s) = Unit {0}
  IsSpellableStatement (Label x) = IsFreeWord x.text

  pub IsSpellableBlock : Block → Type 0
  IsSpellableBlock Empty = Unit {0}
  IsSpellableBlock (Then s b) = IsSpellableStatement s × IsSpellableBlock b

abbrev pub IsSpellableSpecification : Specification → Type 0
IsSpellableSpecification (Requires i) = IsSpellable i.cond
IsSpellableSpecification (Ensures i) = IsSpellable i.cond
IsSpellableSpecification (Modifies xs) = AreNames xs

abbrev pub IsSpellableVariable : Vary → Type 0
IsSpellableVariable x = IsFreeWord x.name.text

abbrev pub AreSpellableVariables : List Vary → Type 0
AreSpellableVariables xs = AllByRecursion IsSpellableVariable xs

abbrev pub IsSpellableBody : Option ProcedureBody → Type 0
IsSpellableBody None = Unit {0}
IsSpellableBody (Some b) = AreSpellableVariables b.locals × IsSpellableBlock b.stmts

pub record IsSpellableProcedure (p : Procedure) : Type 0 where
  pub name : IsFreeWord p.name.text
  pub params : AreSpellableVariables p.params
  pub results : AreSpellableVariables p.results
  pub specs : AllByRecursion IsSpellableSpecification p.specs
  pub body : IsSpellableBody p.body

abbrev pub IsSpellableDeclaration : Declaration → Type 0
IsSpellableDeclaration (Const x) = IsSpellableVariable x
IsSpellableDeclaration (Global x) = IsSpellableVariable x
IsSpellableDeclaration (Axiom s e) = IsSpellable e
IsSpellableDeclaration (Declares p) = IsSpellableProcedure p
IsSpellableDeclaration (Implements p) = IsSpellableProcedure p

-- the program's names are names, and its literals are in range
abbrev pub IsSpellableProgram : List Declaration → Type 0
IsSpellableProgram ds = AllByRecursion IsSpellableDeclaration ds

-- the tokens of a program's text
abbrev pub HasSigns : List Declaration → Type 0
HasSigns ds = (ts : List Token) × (lexed (program_text ds) ≡ Ok ts) × (map (λ t. (symbol t).sign) ts ≡ program_signs ds)
