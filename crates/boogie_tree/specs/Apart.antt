-- Programs apart from where their parts stand: two of them are alike where they are equal once each place is `nowhere`.
use Rattle.std.specs.Prelude.{◌≡◌, List, Option, None, Some, map}
use Rattle.boogie_tree.specs.declared.span.Span.{Span}
use Rattle.boogie_tree.specs.declared.tree.Name.{Name}
use Rattle.boogie_tree.specs.declared.tree.Vary.{Vary}
use Rattle.boogie_tree.specs.Tree.{Expression, Lit, Truth, Var, Old, Not, Neg, Bin, Guard, Any, Cond, Invariant, Statement, Assert, Assume, Havoc, Assign, Call, If, While, Break, Goto, Return, Label, Block, Empty, Then, Specification, Requires, Ensures, Modifies, ProcedureBody, Procedure, Declaration, Const, Global, Axiom, Declares, Implements}

abbrev pub nowhere : Span
nowhere = record { line = 0; col = 0 }

abbrev pub bare_name : Name → Name
bare_name x = record { span = nowhere; text = x.text }

abbrev pub bare_variable : Vary → Vary
bare_variable x = record { name = bare_name x.name; ty = x.ty }

abbrev pub bare : Expression → Expression
bare (Lit s n) = Lit nowhere n
bare (Truth s b) = Truth nowhere b
bare (Var s x) = Var nowhere (bare_name x)
bare (Old s e) = Old nowhere (bare e)
bare (Not s e) = Not nowhere (bare e)
bare (Neg s e) = Neg nowhere (bare e)
bare (Bin s op a b) = Bin nowhere op (bare a) (bare b)

abbrev pub bare_guard : Guard → Guard
bare_guard Any = Any
bare_guard (Cond e) = Cond (bare e)

abbrev pub bare_invariant : Invariant → Invariant
bare_invariant i = record { span = nowhere; free = i.free; cond = bare i.cond }

abbrev pub bare_label : Option Name → Option Name
bare_label None = None
bare_label (Some x) = Some (bare_name x)

abbrev mutual
  pub bare_statement : Statement → Statement
  bare_statement (Assert s e) = Assert nowhere (bare e)
  bare_statement (Assume s e) = Assume nowhere (bare e)
  bare_statement (Havoc s xs) = Havoc nowhere (map bare_name xs)
  bare_statement (Assign s xs es) = Assign nowhere (map bare_name xs) (map bare es)
  bare_statement (Call s xs f es) = Call nowhere (map bare_name xs) (bare_name f) (map bare es)
  bare_statement (If s g a b) = If nowhere (bare_guard g) (bare_block a) (bare_block b)
  bare_statement (While s g is b) = While nowhere (bare_guard g) (map bare_invariant is) (bare_block b)
  bare_statement (Break s x) = Break nowhere (bare_label x)
  bare_statement (Goto s xs) = Goto nowhere (map bare_name xs)
  bare_statement (Return s) = Return nowhere
  bare_statement (Label x) = Label (bare_name x)

  pub bare_block : Block → Block
  bare_block Empty = Empty
  bare_block (Then s b) = Then (bare_statement s) (bare_block b)

abbrev pub bare_specification : Specification → Specification
bare_specification (Requires i) = Requires (bare_invariant i)
bare_specification (Ensures i) = Ensures (bare_invariant i)
bare_specification (Modifies xs) = Modifies (map bare_name xs)

abbrev pub bare_body : Option ProcedureBody → Option ProcedureBody
bare_body None = None
bare_body (Some b) = Some (record { locals = map bare_variable b.locals; stmts = bare_block b.stmts })

abbrev pub bare_procedure : Procedure → Procedure
bare_procedure p =
    record {
      span = nowhere;
      name = bare_name p.name;
      params = map bare_variable p.params;
      results = map bare_variable p.results;
      specs = map bare_specification p.specs;
      body = bare_body p.body;
    }

abbrev pub bare_declaration : Declaration → Declaration
bare_declaration (Const x) = Const (bare_variable x)
bare_declaration (Global x) = Global (bare_variable x)
bare_declaration (Axiom s e) = Axiom nowhere (bare e)
bare_declaration (Declares p) = Declares (bare_procedure p)
bare_declaration (Implements p) = Implements (bare_procedure p)

-- equal apart from places
abbrev pub AreAlike : List Declaration → List Declaration → Type 0
AreAlike p q = map bare_declaration p ≡ map bare_declaration q
