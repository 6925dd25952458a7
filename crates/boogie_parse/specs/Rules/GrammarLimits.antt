-- The limits of programs, and when a text is a program.
use Rattle.std.specs.Prelude.{◌≡◌, ℕ, suc, ◌+◌, ◌≤◌, max, List, [], ◌∷◌, length, Option, None, Some, Ok, map}
use Rattle.std.specs.List.{AllByRecursion}
use Rattle.boogie_tree.specs.Tree.{Expression, Lit, Truth, Var, Old, Not, Neg, Bin, Guard, Any, Cond, Statement, Assert, Assume, Havoc, Assign, Call, If, While, Break, Goto, Return, Label, Block, Empty, Then, Specification, Requires, Ensures, Modifies, ProcedureBody, Procedure, Declaration, Const, Global, Axiom, Declares, Implements}
use Rattle.boogie_parse.specs.declared.lexer.token.Token.{Token}
use Rattle.boogie_parse.specs.Lexing.Lexed.{lexed}
use Rattle.boogie_parse.specs.Lexing.Symbols.{symbol}
use Rattle.boogie_parse.specs.Rules.GrammarProgram.{ReadsProgram, joined_groups}

-- a name or a literal has depth 0, every other expression one more than its deepest part
abbrev pub depth : Expression → ℕ
depth (Lit s n) = 0
depth (Truth s b) = 0
depth (Var s x) = 0
depth (Old s e) = suc (depth e)
depth (Not s e) = suc (depth e)
depth (Neg s e) = suc (depth e)
depth (Bin s op a b) = suc (max (depth a) (depth b))

abbrev pub IsShallow : Expression → Type 0
IsShallow e = depth e ≤ 200

-- Each expression of a guard, a statement, a block, a specification, a body, a procedure or a declaration is so.
module _ (IsSo : Expression → Type 0) where
  abbrev pub EachOfGuard : Guard → Type 0
  EachOfGuard Any = Unit {0}
  EachOfGuard (Cond e) = IsSo e

  abbrev mutual
    pub EachOfStatement : Statement → Type 0
    EachOfStatement (Assert s e) = IsSo e
    EachOfStatement (Assume s e) = IsSo e
    EachOfStatement (Havoc s xs) = Unit {0}
    EachOfStatement (Assign s xs es) = AllByRecursion IsSo es
    EachOfStatement (Call s xs f es) = AllByRecursion IsSo es
    EachOfStatement (If s g a b) = EachOfGuard g × EachOfBlock a × EachOfBlock b
    EachOfStatement (While s g is b) = EachOfGuard g × AllByRecursion (λ i. IsSo i.cond) is × EachOfBlock b
    EachOfStatement (Break s x) = Unit {0}
    EachOfStatement (Goto s xs) = Unit {0}
    EachOfStatement (Return s) = Unit {0}
    EachOfStatement (Label x) = Unit {0}

    pub EachOfBlock : Block → Type 0
    EachOfBlock Empty = Unit {0}
    EachOfBlock (Then s b) = EachOfStatement s × EachOfBlock b

  abbrev pub EachOfSpecification : Specification → Type 0
  EachOfSpecification (Requires i) = IsSo i.cond
  EachOfSpecification (Ensures i) = IsSo i.cond
  EachOfSpecification (Modifies xs) = Unit {0}

  abbrev pub EachOfBody : Option ProcedureBody → Type 0
  EachOfBody None = Unit {0}
  EachOfBody (Some b) = EachOfBlock b.stmts

  abbrev pub EachOfProcedure : Procedure → Type 0
  EachOfProcedure p = AllByRecursion EachOfSpecification p.specs × EachOfBody p.body

  abbrev pub EachOfDeclaration : Declaration → Type 0
  EachOfDeclaration (Const x) = Unit {0}
  EachOfDeclaration (Global x) = Unit {0}
  EachOfDeclaration (Axiom s e) = IsSo e
  EachOfDeclaration (Declares p) = EachOfProcedure p
  EachOfDeclaration (Implements p) = EachOfProcedure p

abbrev pub IsShallowGuard : Guard → Type 0
IsShallowGuard g = EachOfGuard IsShallow g

abbrev pub IsShallowStatement : Statement → Type 0
IsShallowStatement s = EachOfStatement IsShallow s

abbrev pub IsShallowBlock : Block → Type 0
IsShallowBlock b = EachOfBlock IsShallow b

abbrev pub IsShallowSpecification : Specification → Type 0
IsShallowSpecification s = EachOfSpecification IsShallow s

-- no expression of the declaration is deeper than 200
abbrev pub IsShallowDeclaration : Declaration → Type 0
IsShallowDeclaration d = EachOfDeclaration IsShallow d

abbrev pub locals_counted : Option ProcedureBody → ℕ
locals_counted None = 0
locals_counted (Some b) = length b.locals

abbrev pub variables_of_procedure : Procedure → ℕ
variables_of_procedure p = length p.params + length p.results + locals_counted p.body

-- how many variables a declaration of the text declares: its constants or globals, or its parameters, results and locals together
abbrev pub variables_counted : List Declaration → ℕ
variables_counted [] = 0
variables_counted (Const x ∷ ds) = suc (variables_counted ds)
variables_counted (Global x ∷ ds) = suc (variables_counted ds)
variables_counted (Axiom s e ∷ ds) = variables_counted ds
variables_counted (Declares p ∷ ds) = variables_of_procedure p + variables_counted ds
variables_counted (Implements p ∷ ds) = variables_of_procedure p + variables_counted ds

-- how many procedures are declared; implementations do not count
abbrev pub procedures_counted : List Declaration → ℕ
procedures_counted [] = 0
procedures_counted (Const x ∷ ds) = procedures_counted ds
procedures_counted (Global x ∷ ds) = procedures_counted ds
procedures_counted (Axiom s e ∷ ds) = procedures_counted ds
procedures_counted (Declares p ∷ ds) = suc (procedures_counted ds)
procedures_counted (Implements p ∷ ds) = procedures_counted ds

-- the text is in the grammar, whatever the limits on nesting, variables and procedures
pub record IsInGrammar (text : List ℕ) (groups : List (List Declaration)) : Type 0 where
  pub tokens : List Token
  pub lexical : lexed text ≡ Ok tokens
  pub parentheses : ℕ
  pub blocks : ℕ
  pub spelled : ReadsProgram parentheses blocks (map symbol tokens) groups

-- The text is the program, within all limits: 200 parentheses, 200 blocks and a depth of 200 for each expression, 1,000 variables in one
-- declaration, 1,000 procedures. Its literals fit, since it has tokens.
pub record IsProgram (text : List ℕ) (program : List Declaration) : Type 0 where
  pub tokens : List Token
  pub lexical : lexed text ≡ Ok tokens
  pub groups : List (List Declaration)
  pub spelled : ReadsProgram 200 200 (map symbol tokens) groups
  pub declarations : program ≡ joined_groups groups
  pub shallow : AllByRecursion IsShallowDeclaration program
  pub few_variables : AllByRecursion (λ ds. variables_counted ds ≤ 1000) groups
  pub few_procedures : procedures_counted program ≤ 1000
