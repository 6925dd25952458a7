-- What is explained is the program that was given, of which more is said: nothing else of it changes.
use Rattle.std.specs.Prelude.{◌≡◌, List, ◌++◌, Option, None, Some}
use Rattle.std.specs.List.{AllZip}
use Rattle.boogie_tree.specs.declared.span.Span.{Span}
use Rattle.boogie_tree.specs.Tree.{Expression, Guard, Invariant, Statement, Assert, If, While, Block, Empty, Then, Specification, ProcedureBody, Procedure, Declaration, Declares, Implements}
use Rattle.explained_proof.specs.Explained.{Told, explained}

mutual
  -- the second list of statements is the first with assertions added, and with more said in its statements
  pub data SaysMore : Block → Block → Type 0 where
    nothing_left : SaysMore Empty Empty
    one_more : {s t : Statement} {a b : Block} → SaysMoreIn s t → SaysMore a b → SaysMore (Then s a) (Then t b)
    one_asserted : {a b : Block} → (at : Span) (e : Expression) → SaysMore a b → SaysMore a (Then (Assert at e) b)

  -- the second statement is the first, with invariants in front of its own, and with more said in its lists
  pub data SaysMoreIn : Statement → Statement → Type 0 where
    unchanged : (s : Statement) → SaysMoreIn s s
    in_branches : {a b c d : Block} → (at : Span) (g : Guard) → SaysMore a c → SaysMore b d → SaysMoreIn (If at g a b) (If at g c d)
    in_loop : {b c : Block} → (at : Span) (g : Guard) (more own : List Invariant) → SaysMore b c → SaysMoreIn (While at g own b) (While at g (more ++ own) c)

abbrev pub BodySaysMore : Option ProcedureBody → Option ProcedureBody → Type 0
BodySaysMore None None = Unit {0}
BodySaysMore None (Some c) = ⊥
BodySaysMore (Some b) None = ⊥
BodySaysMore (Some b) (Some c) = (b.locals ≡ c.locals) × SaysMore b.stmts c.stmts

-- the second procedure is the first, with specifications behind its own, and with more said in its body
pub record ProcedureSaysMore (p q : Procedure) : Type 0 where
  pub span : q.span ≡ p.span
  pub name : q.name ≡ p.name
  pub params : q.params ≡ p.params
  pub results : q.results ≡ p.results
  pub specs : (more : List Specification) × (q.specs ≡ p.specs ++ more)
  pub body : BodySaysMore p.body q.body

abbrev pub DeclarationSaysMore : Declaration → Declaration → Type 0
DeclarationSaysMore (Declares p) (Declares q) = ProcedureSaysMore p q
DeclarationSaysMore (Implements p) (Implements q) = ProcedureSaysMore p q
DeclarationSaysMore d e = d ≡ e

-- an explained program says more than the given one, declaration by declaration, and nothing else
abbrev pub ExplainedSaysMore : Type 0
ExplainedSaysMore = (d : Told) (ds : List Declaration) → AllZip DeclarationSaysMore ds (explained d ds)
