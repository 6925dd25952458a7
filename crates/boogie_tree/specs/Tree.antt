-- Programs as trees, without places in memory. Each part keeps where it stands in the text.
use Rattle.std.specs.Prelude.{ℤ, Bool, List, Option}
use Rattle.boogie_tree.specs.declared.span.Span.{Span}
use Rattle.boogie_tree.specs.declared.tree.Name.{Name}
use Rattle.boogie_tree.specs.declared.tree.Op.{Op}
use Rattle.boogie_tree.specs.declared.tree.Vary.{Vary}

pub data Expression : Type 0 where
  Lit : Span → ℤ → Expression
  Truth : Span → Bool → Expression
  Var : Span → Name → Expression
  Old : Span → Expression → Expression
  Not : Span → Expression → Expression
  Neg : Span → Expression → Expression
  Bin : Span → Op → Expression → Expression → Expression

-- what decides a branch or a loop: either way, or a condition
pub data Guard : Type 0 where
  Any : Guard
  Cond : Expression → Guard

-- a condition of a specification or of a loop
pub record Invariant : Type 0 where
  pub span : Span
  pub free : Bool
  pub cond : Expression

-- statements, and lists of them
mutual
  pub data Statement : Type 0 where
    Assert : Span → Expression → Statement
    Assume : Span → Expression → Statement
    Havoc : Span → List Name → Statement
    Assign : Span → List Name → List Expression → Statement
    Call : Span → List Name → Name → List Expression → Statement
    If : Span → Guard → Block → Block → Statement
    While : Span → Guard → List Invariant → Block → Statement
    Break : Span → Option Name → Statement
    Goto : Span → List Name → Statement
    Return : Span → Statement
    Label : Name → Statement

  pub data Block : Type 0 where
    Empty : Block
    Then : Statement → Block → Block

pub data Specification : Type 0 where
  Requires : Invariant → Specification
  Ensures : Invariant → Specification
  Modifies : List Name → Specification

pub record ProcedureBody : Type 0 where
  pub locals : List Vary
  pub stmts : Block

-- a procedure, or the implementation of one
pub record Procedure : Type 0 where
  pub span : Span
  pub name : Name
  pub params : List Vary
  pub results : List Vary
  pub specs : List Specification
  pub body : Option ProcedureBody

pub data Declaration : Type 0 where
  Const : Vary → Declaration
  Global : Vary → Declaration
  Axiom : Span → Expression → Declaration
  Declares : Procedure → Declaration
  Implements : Procedure → Declaration
