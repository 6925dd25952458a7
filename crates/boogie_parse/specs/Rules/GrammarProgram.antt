-- The grammar of programs. A declaration of several constants or variables gives one of each name; `groups` keeps those of one
-- declaration of the text together, since a limit counts them.
use Rattle.std.specs.Prelude.{ℕ, suc, List, [], ◌∷◌, ◌++◌, Option, None, Some, map}
use Rattle.boogie_tree.specs.declared.span.Span.{Span}
use Rattle.boogie_tree.specs.declared.level.Level.TheVariants.{Equivalence}
use Rattle.boogie_tree.specs.declared.tree.Name.{Name}
use Rattle.boogie_tree.specs.declared.tree.Vary.{Vary}
use Rattle.boogie_tree.specs.Tree.{Expression, Invariant, Block, Specification, Requires, Ensures, Modifies, ProcedureBody, Procedure, Declaration, Const, Global, Axiom, Declares, Implements}
use Rattle.boogie_parse.specs.declared.symbols.Fixed.{Fixed}
use Rattle.boogie_parse.specs.declared.symbols.Fixed.TheVariants as fixed
use Rattle.boogie_parse.specs.declared.symbols.Symbol.{Symbol}
use Rattle.boogie_parse.specs.Rules.Grammar.{Is, Reads}
use Rattle.boogie_parse.specs.Rules.GrammarLists.{IsName, ReadsNames, ReadsCondition, ReadsDeclared, ReadsFormals, ReadsResults}
use Rattle.boogie_parse.specs.Rules.GrammarStatements.{ReadsList}

pub data ReadsSpecification : ℕ → List Symbol → Specification → List Symbol → Type 0 where
  requires : {p : ℕ} {ts r : List Symbol} {i : Invariant} → ReadsCondition p fixed.Requires ts i r → ReadsSpecification p ts (Requires i) r
  ensures : {p : ℕ} {ts r : List Symbol} {i : Invariant} → ReadsCondition p fixed.Ensures ts i r → ReadsSpecification p ts (Ensures i) r
  modifies_nothing : {p : ℕ} {r : List Symbol} (t u : Symbol) → Is t fixed.Modifies → Is u fixed.Semicolon → ReadsSpecification p (t ∷ u ∷ r) (Modifies []) r
  modifies : {p : ℕ} {ts r : List Symbol} {xs : List Name} (t u : Symbol) →
      Is t fixed.Modifies → ReadsNames ts xs (u ∷ r) → Is u fixed.Semicolon → ReadsSpecification p (t ∷ ts) (Modifies xs) r

pub data ReadsSpecifications : ℕ → List Symbol → List Specification → List Symbol → Type 0 where
  no_specification : {p : ℕ} {r : List Symbol} → ReadsSpecifications p r [] r
  next_specification : {p : ℕ} {ts m r : List Symbol} {s : Specification} {ss : List Specification} →
      ReadsSpecification p ts s m → ReadsSpecifications p m ss r → ReadsSpecifications p ts (s ∷ ss) r

pub data ReadsLocals : List Symbol → List Vary → List Symbol → Type 0 where
  no_local : {r : List Symbol} → ReadsLocals r [] r
  next_locals : {ts m r : List Symbol} {vs ws : List Vary} → ReadsDeclared fixed.Var ts vs m → ReadsLocals m ws r → ReadsLocals ts (vs ++ ws) r

-- a body opens a block
pub data ReadsBody : ℕ → ℕ → List Symbol → ProcedureBody → List Symbol → Type 0 where
  body : {p b : ℕ} {ts m r : List Symbol} {vs : List Vary} {x : Block} (u v : Symbol) →
      Is u fixed.OpenBrace → ReadsLocals ts vs m → ReadsList p b m x (v ∷ r) → Is v fixed.CloseBrace →
      ReadsBody p (suc b) (u ∷ ts) (record { locals = vs; stmts = x }) r

-- the front of a procedure or an implementation: where it stands, its name, its parameters and its results
pub record Head : Type 0 where
  pub span : Span
  pub name : Name
  pub params : List Vary
  pub results : List Vary

pub data ReadsHead : ℕ → Fixed → List Symbol → Head → List Symbol → Type 0 where
  head : {p : ℕ} {f : Fixed} {ts m r : List Symbol} {x : Name} {ps rs : List Vary} (t n : Symbol) →
      Is t f → IsName n x → ReadsFormals p ts ps m → ReadsResults p m rs r →
      ReadsHead p f (t ∷ n ∷ ts) (record { span = t.span; name = x; params = ps; results = rs }) r

abbrev pub procedure_read : Head → List Specification → Option ProcedureBody → Procedure
procedure_read h ss b = record { span = h.span; name = h.name; params = h.params; results = h.results; specs = ss; body = b }

-- one declaration of the text
pub data ReadsDeclaration : ℕ → ℕ → List Symbol → List Declaration → List Symbol → Type 0 where
  constants : {p b : ℕ} {ts r : List Symbol} {vs : List Vary} → ReadsDeclared fixed.Const ts vs r → ReadsDeclaration p b ts (map Const vs) r
  variables : {p b : ℕ} {ts r : List Symbol} {vs : List Vary} → ReadsDeclared fixed.Var ts vs r → ReadsDeclaration p b ts (map Global vs) r
  axioms : {p b : ℕ} {ts r : List Symbol} {e : Expression} (t u : Symbol) →
      Is t fixed.Axiom → Reads p Equivalence ts e (u ∷ r) → Is u fixed.Semicolon → ReadsDeclaration p b (t ∷ ts) (Axiom t.span e ∷ []) r
  without_body : {p b : ℕ} {ts m r : List Symbol} {h : Head} {ss : List Specification} (u : Symbol) →
      ReadsHead p fixed.Procedure ts h (u ∷ m) → Is u fixed.Semicolon → ReadsSpecifications p m ss r →
      ReadsDeclaration p b ts (Declares (procedure_read h ss None) ∷ []) r
  with_body : {p b : ℕ} {ts m n r : List Symbol} {h : Head} {ss : List Specification} {x : ProcedureBody} →
      ReadsHead p fixed.Procedure ts h m → ReadsSpecifications p m ss n → ReadsBody p b n x r →
      ReadsDeclaration p b ts (Declares (procedure_read h ss (Some x)) ∷ []) r
  implementation : {p b : ℕ} {ts m r : List Symbol} {h : Head} {x : ProcedureBody} →
      ReadsHead p fixed.Implementation ts h m → ReadsBody p b m x r →
      ReadsDeclaration p b ts (Implements (procedure_read h [] (Some x)) ∷ []) r

-- the symbols of a whole program, by the declarations of the text
pub data ReadsProgram : ℕ → ℕ → List Symbol → List (List Declaration) → Type 0 where
  no_declaration : {p b : ℕ} → ReadsProgram p b [] []
  next_declaration : {p b : ℕ} {ts m : List Symbol} {ds : List Declaration} {groups : List (List Declaration)} →
      ReadsDeclaration p b ts ds m → ReadsProgram p b m groups → ReadsProgram p b ts (ds ∷ groups)

-- the declarations in order
abbrev pub joined_groups : List (List Declaration) → List Declaration
joined_groups [] = []
joined_groups (ds ∷ groups) = ds ++ joined_groups groups
