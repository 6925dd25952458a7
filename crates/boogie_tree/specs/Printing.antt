-- The canonical text of a program: one line for each item, indented by two spaces for each open block.
use Rattle.std.specs.Prelude.{ℕ, zero, suc, Bool, true, false, List, [], ◌∷◌, ◌++◌, Option, None, Some, codes, map}
use Rattle.std.specs.Fmt.{signed_decimal}
use Rattle.boogie_tree.specs.declared.level.Level.TheVariants.{Unary}
use Rattle.boogie_tree.specs.declared.tree.Name.{Name}
use Rattle.boogie_tree.specs.declared.tree.Ty.{Ty}
use Rattle.boogie_tree.specs.declared.tree.Ty.TheVariants as types
use Rattle.boogie_tree.specs.declared.tree.Vary.{Vary}
use Rattle.boogie_tree.specs.declared.level.Level.{Level}
use Rattle.boogie_tree.specs.declared.tree.Op.{Op}
use Rattle.boogie_tree.specs.declared.tree.Op.TheVariants.{Iff, Implies, And, Or, Eq, Ne, Lt, Le, Gt, Ge, Add, Sub, Mul, Div, Mod}
use Rattle.boogie_tree.specs.Tree.{Expression, Lit, Truth, Var, Old, Not, Neg, Bin, Guard, Any, Cond, Invariant, Statement, Assert, Assume, Havoc, Assign, Call, If, While, Break, Goto, Return, Label, Block, Empty, Then, Specification, Requires, Ensures, Modifies, ProcedureBody, Procedure, Declaration, Const, Global, Axiom, Declares, Implements}
use Rattle.boogie_tree.specs.Levels.{may_stand, level_of, level_of_operator, left_of, right_of}

abbrev pub operator_text : Op → List ℕ
operator_text Iff = codes " <==> "
operator_text Implies = codes " ==> "
operator_text And = codes " && "
operator_text Or = codes " || "
operator_text Eq = codes " == "
operator_text Ne = codes " != "
operator_text Lt = codes " < "
operator_text Le = codes " <= "
operator_text Gt = codes " > "
operator_text Ge = codes " >= "
operator_text Add = codes " + "
operator_text Sub = codes " - "
operator_text Mul = codes " * "
operator_text Div = codes " div "
operator_text Mod = codes " mod "

abbrev pub truth_text : Bool → List ℕ
truth_text true = codes "true"
truth_text false = codes "false"

-- in parentheses, unless the text may stand without
abbrev pub grouped : Bool → List ℕ → List ℕ
grouped true t = t
grouped false t = codes "(" ++ t ++ codes ")"

-- An operand stands in parentheses where it binds less than its place asks.
abbrev pub expression_text : Expression → List ℕ
expression_text (Lit s n) = signed_decimal n
expression_text (Truth s b) = truth_text b
expression_text (Var s x) = x.text
expression_text (Old s e) = codes "old(" ++ expression_text e ++ codes ")"
expression_text (Not s e) = codes "!" ++ grouped (may_stand Unary (level_of e)) (expression_text e)
expression_text (Neg s e) = codes "-" ++ grouped (may_stand Unary (level_of e)) (expression_text e)
expression_text (Bin s op a b) =
    grouped (may_stand (left_of (level_of_operator op)) (level_of a)) (expression_text a)
    ++ operator_text op
    ++ grouped (may_stand (right_of (level_of_operator op)) (level_of b)) (expression_text b)

-- an operand where that level is asked for
abbrev pub operand_text : Level → Expression → List ℕ
operand_text asked e = grouped (may_stand asked (level_of e)) (expression_text e)

-- texts with a comma and a space before each
abbrev pub continued : List (List ℕ) → List ℕ
continued [] = []
continued (t ∷ ts) = codes ", " ++ t ++ continued ts

-- texts with a comma and a space between them
abbrev pub listed : List (List ℕ) → List ℕ
listed [] = []
listed (t ∷ ts) = t ++ continued ts

abbrev pub names_text : List Name → List ℕ
names_text xs = listed (map (λ x. x.text) xs)

abbrev pub expressions_text : List Expression → List ℕ
expressions_text es = listed (map expression_text es)

abbrev pub type_text : Ty → List ℕ
type_text types.Int = codes "int"
type_text types.Bool = codes "bool"

abbrev pub variable_text : Vary → List ℕ
variable_text x = x.name.text ++ codes ": " ++ type_text x.ty

abbrev pub variables_text : List Vary → List ℕ
variables_text xs = listed (map variable_text xs)

abbrev pub indent : ℕ → List ℕ
indent zero = []
indent (suc n) = codes "  " ++ indent n

-- a line in n open blocks
abbrev pub line : ℕ → List ℕ → List ℕ
line n t = indent n ++ t ++ codes "\n"

abbrev pub guard_text : Guard → List ℕ
guard_text Any = codes "*"
guard_text (Cond e) = expression_text e

abbrev pub free_text : Bool → List ℕ
free_text true = codes "free "
free_text false = []

abbrev pub condition_line : ℕ → List ℕ → Invariant → List ℕ
condition_line n word i = line n (free_text i.free ++ word ++ codes " " ++ expression_text i.cond ++ codes ";")

abbrev pub invariants_text : ℕ → List Invariant → List ℕ
invariants_text n [] = []
invariants_text n (i ∷ is) = condition_line n (codes "invariant") i ++ invariants_text n is

-- what stands before the procedure of a call: nothing where there is no target
abbrev pub targets_text : List Name → List ℕ
targets_text [] = []
targets_text (x ∷ xs) = names_text (x ∷ xs) ++ codes " := "

abbrev pub break_text : Option Name → List ℕ
break_text None = codes "break;"
break_text (Some x) = codes "break " ++ x.text ++ codes ";"

-- the else part, given its text: nothing where the list is empty
abbrev pub else_text : ℕ → Block → List ℕ → List ℕ
else_text n Empty t = []
else_text n (Then s b) t = line n (codes "} else {") ++ t

abbrev mutual
  -- a statement in n open blocks
  pub statement_text : ℕ → Statement → List ℕ
  statement_text n (Assert s e) = line n (codes "assert " ++ expression_text e ++ codes ";")
  statement_text n (Assume s e) = line n (codes "assume " ++ expression_text e ++ codes ";")
  statement_text n (Havoc s xs) = line n (codes "havoc " ++ names_text xs ++ codes ";")
  statement_text n (Assign s xs es) = line n (names_text xs ++ codes " := " ++ expressions_text es ++ codes ";")
  statement_text n (Call s xs f es) = line n (codes "call " ++ targets_text xs ++ f.text ++ codes "(" ++ expressions_text es ++ codes ");")
  statement_text n (If s g a b) =
      line n (codes "if (" ++ guard_text g ++ codes ") {") ++ block_text (suc n) a
      ++ else_text n b (block_text (suc n) b) ++ line n (codes "}")
  statement_text n (While s g is b) =
      line n (codes "while (" ++ guard_text g ++ codes ")") ++ invariants_text (suc n) is
      ++ line n (codes "{") ++ block_text (suc n) b ++ line n (codes "}")
  statement_text n (Break s x) = line n (break_text x)
  statement_text n (Goto s xs) = line n (codes "goto " ++ names_text xs ++ codes ";")
  statement_text n (Return s) = line n (codes "return;")
  statement_text n (Label x) = line n (x.text ++ codes ":")

  -- statements in n open blocks
  pub block_text : ℕ → Block → List ℕ
  block_text n Empty = []
  block_text n (Then s b) = statement_text n s ++ block_text n b

-- `modifies;` where the list is empty
abbrev pub modified_text : List Name → List ℕ
modified_text [] = []
modified_text (x ∷ xs) = codes " " ++ names_text (x ∷ xs)

abbrev pub specification_text : Specification → List ℕ
specification_text (Requires i) = condition_line 1 (codes "requires") i
specification_text (Ensures i) = condition_line 1 (codes "ensures") i
specification_text (Modifies xs) = line 1 (codes "modifies" ++ modified_text xs ++ codes ";")

abbrev pub specifications_text : List Specification → List ℕ
specifications_text [] = []
specifications_text (x ∷ xs) = specification_text x ++ specifications_text xs

abbrev pub locals_text : List Vary → List ℕ
locals_text [] = []
locals_text (x ∷ xs) = line 1 (codes "var " ++ variable_text x ++ codes ";") ++ locals_text xs

abbrev pub results_text : List Vary → List ℕ
results_text [] = []
results_text (x ∷ xs) = codes " returns (" ++ variables_text (x ∷ xs) ++ codes ")"

-- a procedure without a body ends its first line with a semicolon
abbrev pub end_of_head : Option ProcedureBody → List ℕ
end_of_head None = codes ";"
end_of_head (Some b) = []

abbrev pub body_text : Option ProcedureBody → List ℕ
body_text None = []
body_text (Some b) = line 0 (codes "{") ++ locals_text b.locals ++ block_text 1 b.stmts ++ line 0 (codes "}")

-- the first line of a procedure up to its parameters
abbrev pub signature_text : List ℕ → Name → List Vary → List ℕ
signature_text word name params = word ++ codes " " ++ name.text ++ codes "(" ++ variables_text params ++ codes ")"

-- the first line of a procedure or an implementation, which begins with that word
abbrev pub head_text : List ℕ → Procedure → List ℕ
head_text word p = line 0 (signature_text word p.name p.params ++ results_text p.results ++ end_of_head p.body)

abbrev pub procedure_text : List ℕ → Procedure → List ℕ
procedure_text word p = head_text word p ++ specifications_text p.specs ++ body_text p.body

abbrev pub declaration_text : Declaration → List ℕ
declaration_text (Const x) = line 0 (codes "const " ++ variable_text x ++ codes ";")
declaration_text (Global x) = line 0 (codes "var " ++ variable_text x ++ codes ";")
declaration_text (Axiom s e) = line 0 (codes "axiom " ++ expression_text e ++ codes ";")
declaration_text (Declares p) = procedure_text (codes "procedure") p
declaration_text (Implements p) = procedure_text (codes "implementation") p

-- the text of a program
abbrev pub program_text : List Declaration → List ℕ
program_text [] = []
program_text (d ∷ ds) = declaration_text d ++ program_text ds
