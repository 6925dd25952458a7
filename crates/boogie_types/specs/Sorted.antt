-- The declarations of a program, sorted by what they declare.
use Rattle.std.specs.Prelude.{ℕ, true, false, ◌+◌, nat_eq, List, [], ◌∷◌, ◌++◌, map, codes, Option, None, Some, option_and_then, if◌then◌else◌, zero, suc}
use Rattle.std.specs.Option.{option_or}
use Rattle.std.specs.List.{list_any}
use Rattle.std.specs.Str.{bytes_eq}
use Rattle.std.specs.Int.Digits.{digits_of}
use Rattle.boogie_tree.specs.declared.tree.Name.{Name}
use Rattle.boogie_tree.specs.declared.tree.Ty.TheVariants as types
use Rattle.boogie_tree.specs.declared.tree.Vary.{Vary}
use Rattle.boogie_tree.specs.Tree.{Expression, Statement, Label, If, While, Block, Empty, Then, Specification, Modifies, Procedure, ProcedureBody, Declaration, Const, Global, Axiom, Declares, Implements}
use Rattle.boogie_tree.specs.declared.tree.VarInfo.{VarInfo}
use Rattle.boogie_types.specs.Meanings.{variable_info}

-- the constants and globals, in order of declaration
abbrev pub declared_globals : List Declaration → List VarInfo
declared_globals [] = []
declared_globals (Const x ∷ ds) = variable_info true x ∷ declared_globals ds
declared_globals (Global x ∷ ds) = variable_info false x ∷ declared_globals ds
declared_globals (d ∷ ds) = declared_globals ds

-- the names of the constants and globals
abbrev pub global_names : List Declaration → List Name
global_names [] = []
global_names (Const x ∷ ds) = x.name ∷ global_names ds
global_names (Global x ∷ ds) = x.name ∷ global_names ds
global_names (d ∷ ds) = global_names ds

abbrev pub axioms_of : List Declaration → List Expression
axioms_of [] = []
axioms_of (Axiom at e ∷ ds) = e ∷ axioms_of ds
axioms_of (d ∷ ds) = axioms_of ds

abbrev pub procedures_of : List Declaration → List Procedure
procedures_of [] = []
procedures_of (Declares p ∷ ds) = p ∷ procedures_of ds
procedures_of (d ∷ ds) = procedures_of ds

abbrev pub implementations_of : List Declaration → List Procedure
implementations_of [] = []
implementations_of (Implements p ∷ ds) = p ∷ implementations_of ds
implementations_of (d ∷ ds) = implementations_of ds

-- the first procedure with that name
abbrev pub first_named : List ℕ → List Procedure → Option Procedure
first_named name [] = None
first_named name (p ∷ ps) = if bytes_eq name p.name.text then Some p else first_named name ps

-- the body of a procedure: its own, or that of its implementation
abbrev pub body_of : List Declaration → Procedure → Option ProcedureBody
body_of ds p = option_or p.body (option_and_then (λ i. i.body) (first_named p.name.text (implementations_of ds)))

abbrev pub body_locals : Option ProcedureBody → List Vary
body_locals None = []
body_locals (Some b) = b.locals

-- the parameters, the results and the declared locals
abbrev pub declared_locals : Procedure → Option ProcedureBody → List VarInfo
declared_locals p b =
    map (variable_info true) p.params ++ (map (variable_info false) p.results ++ map (variable_info false) (body_locals b))

-- the names of the parameters, results and declared locals
abbrev pub variable_names : Procedure → Option ProcedureBody → List Name
variable_names p b = map (λ v. v.name) (p.params ++ (p.results ++ body_locals b))

-- a number above 0 in decimal digits
abbrev pub decimal_of : ℕ → List ℕ
decimal_of n = map (λ d. 48 + d) (digits_of 10 n)

-- n hidden locals, numbered from that number on
abbrev pub hidden_locals : ℕ → ℕ → List VarInfo
hidden_locals from zero = []
hidden_locals from (suc n) =
    record { name = codes "h:" ++ decimal_of from; ty = types.Bool; constant = false } ∷ hidden_locals (from + 1) n

abbrev mutual
  -- the labels of a statement, in text order
  pub labels_in : Statement → List Name
  labels_in (If at g a b) = block_labels a ++ block_labels b
  labels_in (While at g is b) = block_labels b
  labels_in (Label x) = x ∷ []
  labels_in s = []

  pub block_labels : Block → List Name
  block_labels Empty = []
  block_labels (Then s b) = labels_in s ++ block_labels b

-- the labels of a body, in text order
abbrev pub labels_if_any : Option ProcedureBody → List Name
labels_if_any None = []
labels_if_any (Some b) = block_labels b.stmts

-- the names of the modifies lists, in order
abbrev pub modified_in : List Specification → List Name
modified_in [] = []
modified_in (Modifies xs ∷ ss) = xs ++ modified_in ss
modified_in (s ∷ ss) = modified_in ss

-- each number once, where it stands first
abbrev pub firsts : List ℕ → List ℕ → List ℕ
firsts seen [] = []
firsts seen (n ∷ ns) = if list_any (nat_eq n) seen then firsts seen ns else n ∷ firsts (n ∷ seen) ns

-- the names that procedures or implementations declare
abbrev pub procedure_names : List Procedure → List Name
procedure_names [] = []
procedure_names (p ∷ ps) = p.name ∷ (variable_names p p.body ++ procedure_names ps)

-- the names of the constants and globals, the procedures, and their variables
abbrev pub declared_names : List Declaration → List Name
declared_names ds = global_names ds ++ (procedure_names (procedures_of ds) ++ procedure_names (implementations_of ds))
