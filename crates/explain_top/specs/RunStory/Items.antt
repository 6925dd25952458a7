-- The items of a program's text at which steps stand, each with its line of the canonical text.
use Rattle.std.specs.Prelude.{ℕ, List, [], ◌∷◌, ◌++◌, map, Option, None, Some, codes}
use Rattle.std.specs.List.{flat_map}
use Rattle.std.specs.Option.{option_to_list}
use Rattle.boogie_tree.specs.declared.span.Span.{Span}
use Rattle.boogie_tree.specs.declared.tree.Vary.{Vary}
use Rattle.boogie_tree.specs.Tree.{Expression, Lit, Truth, Var, Old, Not, Neg, Bin, Invariant, Statement, Assert, Assume, Havoc, Assign, Call, If, While, Break, Goto, Return, Label, Block, Empty, Then, Specification, Requires, Ensures, Modifies, ProcedureBody, Procedure, Declaration, Const, Global, Axiom, Declares, Implements}
use Rattle.boogie_tree.specs.Printing.{expression_text, expressions_text, names_text, targets_text, guard_text, break_text, free_text, variable_text, signature_text, results_text}
use Rattle.boogie_types.specs.Sorted.{body_of, body_locals, procedures_of}

-- Where an item stands, its line without indentation, in two parts, the second of which only ends it, and the ways that lead on from it, where there
-- are several.
pub record Item : Type 0 where
  pub at : Span
  pub text : List ℕ
  pub end : List ℕ
  pub ways : List (List ℕ)

abbrev pub item : Span → List ℕ → List ℕ → Item
item at text end = record { at = at; text = text; end = end; ways = [] }

-- ended by a semicolon
abbrev pub plain : Span → List ℕ → Item
plain at text = item at text (codes ";")

abbrev pub condition_item : List ℕ → Invariant → Item
condition_item word i = plain i.span (free_text i.free ++ (word ++ (codes " " ++ expression_text i.cond)))

-- the item that is a statement itself; a label takes no step
abbrev pub own_item : Statement → Option Item
own_item (Assert at e) = Some (plain at (codes "assert " ++ expression_text e))
own_item (Assume at e) = Some (plain at (codes "assume " ++ expression_text e))
own_item (Havoc at xs) = Some (plain at (codes "havoc " ++ names_text xs))
own_item (Assign at xs es) = Some (plain at (names_text xs ++ (codes " := " ++ expressions_text es)))
own_item (Call at xs f es) = Some (plain at (codes "call " ++ (targets_text xs ++ (f.text ++ (codes "(" ++ (expressions_text es ++ codes ")"))))))
own_item (If at g a b) =
    Some (record { at = at; text = codes "if (" ++ (guard_text g ++ codes ")"); end = codes " {"; ways = codes "then" ∷ codes "else" ∷ [] })
own_item (While at g is b) =
    Some (record { at = at; text = codes "while (" ++ (guard_text g ++ codes ")"); end = []; ways = codes "enters" ∷ codes "leaves" ∷ [] })
own_item (Break at x) = Some (item at (break_text x) [])
own_item (Goto at xs) = Some (record { at = at; text = codes "goto " ++ names_text xs; end = codes ";"; ways = map (λ x. codes "to " ++ x.text) xs })
own_item (Return at) = Some (plain at (codes "return"))
own_item (Label x) = None

-- a statement and what stands in it
abbrev mutual
  pub statement_items : Statement → List Item
  statement_items (If at g a b) = option_to_list (own_item (If at g a b)) ++ (block_items a ++ block_items b)
  statement_items (While at g is b) = option_to_list (own_item (While at g is b)) ++ (map (condition_item (codes "invariant")) is ++ block_items b)
  statement_items s = option_to_list (own_item s)

  pub block_items : Block → List Item
  block_items Empty = []
  block_items (Then s b) = statement_items s ++ block_items b

abbrev pub specification_items : Specification → List Item
specification_items (Requires i) = condition_item (codes "requires") i ∷ []
specification_items (Ensures i) = condition_item (codes "ensures") i ∷ []
specification_items (Modifies xs) = []

abbrev pub body_items : Option ProcedureBody → List Item
body_items None = []
body_items (Some b) = block_items b.stmts

abbrev pub procedure_items : Procedure → List Item
procedure_items p = flat_map specification_items p.specs ++ body_items p.body

abbrev pub expression_at : Expression → Span
expression_at (Lit at n) = at
expression_at (Truth at b) = at
expression_at (Var at x) = at
expression_at (Old at e) = at
expression_at (Not at e) = at
expression_at (Neg at e) = at
expression_at (Bin at op a b) = at

-- an axiom stands where its expression does
abbrev pub axiom_item : Expression → Item
axiom_item e = plain (expression_at e) (codes "axiom " ++ expression_text e)

abbrev pub declaration_items : Declaration → List Item
declaration_items (Const x) = []
declaration_items (Global x) = []
declaration_items (Axiom at e) = axiom_item e ∷ []
declaration_items (Declares p) = procedure_items p
declaration_items (Implements p) = procedure_items p

-- the items that are axioms, conditions and statements
abbrev pub items : List Declaration → List Item
items ds = flat_map declaration_items ds

-- ---- variables, and the heads of procedures

abbrev pub variable_item : List ℕ → Vary → Item
variable_item word v = plain v.name.span (word ++ (codes " " ++ variable_text v))

-- the constants and globals, in order of declaration
abbrev pub global_item : Declaration → List Item
global_item (Const x) = variable_item (codes "const") x ∷ []
global_item (Global x) = variable_item (codes "var") x ∷ []
global_item (Axiom at e) = []
global_item (Declares p) = []
global_item (Implements p) = []

abbrev pub global_items : List Declaration → List Item
global_items ds = flat_map global_item ds

-- the head of a procedure, told of something that stands there
abbrev pub head_item : Span → Procedure → Item
head_item at p = item at (signature_text (codes "procedure") p.name p.params ++ results_text p.results) []

-- the variables of a procedure, as far as they are declared: parameters and results stand in the head
abbrev pub local_items : Procedure → List Vary → List Item
local_items p locals = map (λ v. head_item v.name.span p) (p.params ++ p.results) ++ map (variable_item (codes "var")) locals

-- a procedure: its variables, its head, and where it returns, which is told at the head
pub record Heading : Type 0 where
  pub locals : List Item
  pub head : Item
  pub return : Item

abbrev pub heading_with : Procedure → List Vary → Heading
heading_with p locals = record { locals = local_items p locals; head = head_item p.span p; return = item p.span (codes "}") [] }

-- with the variables of its body, or of that of its implementation
abbrev pub heading : List Declaration → Procedure → Heading
heading ds p = heading_with p (body_locals (body_of ds p))

abbrev pub headings : List Declaration → List Heading
headings ds = map (heading ds) (procedures_of ds)
