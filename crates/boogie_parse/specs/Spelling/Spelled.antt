-- The signs of a program's canonical text: what its tokens say to the grammar, in order.
use Rattle.std.specs.Prelude.{suc, ℤ, pos, negsuc, Bool, true, false, List, [], ◌∷◌, ◌++◌, Option, None, Some, map}
use Rattle.boogie_tree.specs.declared.level.Level.TheVariants.{Unary}
use Rattle.boogie_tree.specs.declared.tree.Name.{Name}
use Rattle.boogie_tree.specs.declared.tree.Ty.{Ty}
use Rattle.boogie_tree.specs.declared.tree.Ty.TheVariants as types
use Rattle.boogie_tree.specs.declared.tree.Vary.{Vary}
use Rattle.boogie_tree.specs.declared.tree.Op.{Op}
use Rattle.boogie_tree.specs.declared.tree.Op.TheVariants.{Iff, Implies, And, Or, Eq, Ne, Lt, Le, Gt, Ge, Add, Sub, Mul, Div, Mod}
use Rattle.boogie_tree.specs.Levels.{may_stand, level_of, level_of_operator, left_of, right_of}
use Rattle.boogie_tree.specs.Tree.{Expression, Lit, Truth, Var, Old, Not, Neg, Bin, Guard, Any, Cond, Invariant, Statement, Assert, Assume, Havoc, Assign, Call, If, While, Break, Goto, Return, Label, Block, Empty, Then, Specification, Requires, Ensures, Modifies, ProcedureBody, Procedure, Declaration, Const, Global, Axiom, Declares, Implements}
use Rattle.boogie_parse.specs.declared.symbols.Fixed.{Fixed}
use Rattle.boogie_parse.specs.declared.symbols.Fixed.TheVariants as fixed
use Rattle.boogie_parse.specs.declared.symbols.Sign.{Sign}
use Rattle.boogie_parse.specs.declared.symbols.Sign.TheVariants as signs

-- a fixed word or mark in front
abbrev pub led : Fixed → List Sign → List Sign
led f ss = signs.Fixed f ∷ ss

abbrev pub name_sign : Name → Sign
name_sign x = signs.Name x.text

abbrev pub literal_signs : ℤ → List Sign
literal_signs (pos n) = signs.Number (pos n) ∷ []
literal_signs (negsuc n) = led fixed.Minus (signs.Number (pos (suc n)) ∷ [])

abbrev pub truth_sign : Bool → Fixed
truth_sign true = fixed.True
truth_sign false = fixed.False

abbrev pub operator_sign : Op → Fixed
operator_sign Iff = fixed.Iff
operator_sign Implies = fixed.Implies
operator_sign And = fixed.And
operator_sign Or = fixed.Or
operator_sign Eq = fixed.Equal
operator_sign Ne = fixed.Unequal
operator_sign Lt = fixed.Less
operator_sign Le = fixed.AtMost
operator_sign Gt = fixed.Greater
operator_sign Ge = fixed.AtLeast
operator_sign Add = fixed.Plus
operator_sign Sub = fixed.Minus
operator_sign Mul = fixed.Star
operator_sign Div = fixed.Div
operator_sign Mod = fixed.Mod

-- in parentheses, unless the signs may stand without
abbrev pub grouped_signs : Bool → List Sign → List Sign
grouped_signs true ss = ss
grouped_signs false ss = led fixed.OpenParenthesis (ss ++ led fixed.CloseParenthesis [])

abbrev pub expression_signs : Expression → List Sign
expression_signs (Lit s n) = literal_signs n
expression_signs (Truth s b) = led (truth_sign b) []
expression_signs (Var s x) = name_sign x ∷ []
expression_signs (Old s e) = led fixed.Old (led fixed.OpenParenthesis (expression_signs e ++ led fixed.CloseParenthesis []))
expression_signs (Not s e) = led fixed.Not (grouped_signs (may_stand Unary (level_of e)) (expression_signs e))
expression_signs (Neg s e) = led fixed.Minus (grouped_signs (may_stand Unary (level_of e)) (expression_signs e))
expression_signs (Bin s op a b) =
    grouped_signs (may_stand (left_of (level_of_operator op)) (level_of a)) (expression_signs a)
    ++ led (operator_sign op) (grouped_signs (may_stand (right_of (level_of_operator op)) (level_of b)) (expression_signs b))

-- signs with a comma before each group of them
abbrev pub continued_signs : List (List Sign) → List Sign
continued_signs [] = []
continued_signs (ss ∷ more) = led fixed.Comma (ss ++ continued_signs more)

-- signs with a comma between the groups
abbrev pub listed_signs : List (List Sign) → List Sign
listed_signs [] = []
listed_signs (ss ∷ more) = ss ++ continued_signs more

abbrev pub names_signs : List Name → List Sign
names_signs xs = listed_signs (map (λ x. name_sign x ∷ []) xs)

abbrev pub expressions_signs : List Expression → List Sign
expressions_signs es = listed_signs (map expression_signs es)

abbrev pub type_sign : Ty → Fixed
type_sign types.Int = fixed.Int
type_sign types.Bool = fixed.Bool

abbrev pub variable_signs : Vary → List Sign
variable_signs x = name_sign x.name ∷ led fixed.Colon (led (type_sign x.ty) [])

abbrev pub variables_signs : List Vary → List Sign
variables_signs xs = listed_signs (map variable_signs xs)

-- in parentheses
abbrev pub enclosed_signs : List Sign → List Sign
enclosed_signs ss = led fixed.OpenParenthesis (ss ++ led fixed.CloseParenthesis [])

-- up to a semicolon
abbrev pub ended_signs : List Sign → List Sign
ended_signs ss = ss ++ led fixed.Semicolon []

abbrev pub guard_signs : Guard → List Sign
guard_signs Any = led fixed.Star []
guard_signs (Cond e) = expression_signs e

abbrev pub free_signs : Bool → List Sign → List Sign
free_signs true ss = led fixed.Free ss
free_signs false ss = ss

abbrev pub condition_signs : Fixed → Invariant → List Sign
condition_signs f i = free_signs i.free (led f (ended_signs (expression_signs i.cond)))

abbrev pub invariants_signs : List Invariant → List Sign
invariants_signs [] = []
invariants_signs (i ∷ is) = condition_signs fixed.Invariant i ++ invariants_signs is

abbrev pub targets_signs : List Name → List Sign
targets_signs [] = []
targets_signs (x ∷ xs) = names_signs (x ∷ xs) ++ led fixed.Becomes []

abbrev pub break_signs : Option Name → List Sign
break_signs None = led fixed.Break []
break_signs (Some x) = led fixed.Break (name_sign x ∷ [])

-- the else part, given its signs: nothing where the list is empty
abbrev pub else_signs : Block → List Sign → List Sign
else_signs Empty ss = []
else_signs (Then s b) ss = led fixed.Else (led fixed.OpenBrace (ss ++ led fixed.CloseBrace []))

abbrev mutual
  pub statement_signs : Statement → List Sign
  statement_signs (Assert s e) = led fixed.Assert (ended_signs (expression_signs e))
  statement_signs (Assume s e) = led fixed.Assume (ended_signs (expression_signs e))
  statement_signs (Havoc s xs) = led fixed.Havoc (ended_signs (names_signs xs))
  statement_signs (Assign s xs es) = names_signs xs ++ led fixed.Becomes (ended_signs (expressions_signs es))
  statement_signs (Call s xs f es) = led fixed.Call (targets_signs xs ++ name_sign f ∷ ended_signs (enclosed_signs (expressions_signs es)))
  statement_signs (If s g a b) =
      led fixed.If (enclosed_signs (guard_signs g) ++ led fixed.OpenBrace (block_signs a ++ led fixed.CloseBrace (else_signs b (block_signs b))))
  statement_signs (While s g is b) =
      led fixed.While (enclosed_signs (guard_signs g) ++ invariants_signs is ++ led fixed.OpenBrace (block_signs b ++ led fixed.CloseBrace []))
  statement_signs (Break s x) = ended_signs (break_signs x)
  statement_signs (Goto s xs) = led fixed.Goto (ended_signs (names_signs xs))
  statement_signs (Return s) = led fixed.Return (led fixed.Semicolon [])
  statement_signs (Label x) = name_sign x ∷ led fixed.Colon []

  pub block_signs : Block → List Sign
  block_signs Empty = []
  block_signs (Then s b) = statement_signs s ++ block_signs b

abbrev pub specification_signs : Specification → List Sign
specification_signs (Requires i) = condition_signs fixed.Requires i
specification_signs (Ensures i) = condition_signs fixed.Ensures i
specification_signs (Modifies xs) = led fixed.Modifies (ended_signs (names_signs xs))

abbrev pub specifications_signs : List Specification → List Sign
specifications_signs [] = []
specifications_signs (x ∷ xs) = specification_signs x ++ specifications_signs xs

abbrev pub declared_signs : Fixed → Vary → List Sign
declared_signs f x = led f (ended_signs (variable_signs x))

abbrev pub locals_signs : List Vary → List Sign
locals_signs [] = []
locals_signs (x ∷ xs) = declared_signs fixed.Var x ++ locals_signs xs

abbrev pub results_signs : List Vary → List Sign
results_signs [] = []
results_signs (x ∷ xs) = led fixed.Returns (enclosed_signs (variables_signs (x ∷ xs)))

-- a procedure without a body ends its front with a semicolon
abbrev pub end_of_head_signs : Option ProcedureBody → List Sign
end_of_head_signs None = led fixed.Semicolon []
end_of_head_signs (Some b) = []

abbrev pub body_signs : Option ProcedureBody → List Sign
body_signs None = []
body_signs (Some b) = led fixed.OpenBrace (locals_signs b.locals ++ block_signs b.stmts ++ led fixed.CloseBrace [])

abbrev pub procedure_signs : Fixed → Procedure → List Sign
procedure_signs f p =
    led f (name_sign p.name ∷ enclosed_signs (variables_signs p.params) ++ results_signs p.results ++ end_of_head_signs p.body
    ++ specifications_signs p.specs ++ body_signs p.body)

abbrev pub declaration_signs : Declaration → List Sign
declaration_signs (Const x) = declared_signs fixed.Const x
declaration_signs (Global x) = declared_signs fixed.Var x
declaration_signs (Axiom s e) = led fixed.Axiom (ended_signs (expression_signs e))
declaration_signs (Declares p) = procedure_signs fixed.Procedure p
declaration_signs (Implements p) = procedure_signs fixed.Implementation p

-- the signs of a program's text
abbrev pub program_signs : List Declaration → List Sign
program_signs [] = []
program_signs (d ∷ ds) = declaration_signs d ++ program_signs ds
