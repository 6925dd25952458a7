-- Programs with their names resolved, without places in memory.
use Rattle.std.specs.Prelude.{ℕ, ℤ, Bool, List, Option}
use Rattle.boogie_tree.specs.declared.span.Span.{Span}
use Rattle.boogie_tree.specs.declared.tree.Op.{Op}
use Rattle.boogie_tree.specs.declared.tree.Column.{Column}
use Rattle.boogie_tree.specs.declared.tree.VarInfo.{VarInfo}

pub data TypedExpression : Type 0 where
  Lit : Span → ℤ → TypedExpression
  Truth : Span → Bool → TypedExpression
  Var : Span → Column → TypedExpression
  Old : Span → TypedExpression → TypedExpression
  Not : Span → TypedExpression → TypedExpression
  Neg : Span → TypedExpression → TypedExpression
  Bin : Span → Op → TypedExpression → TypedExpression → TypedExpression

-- what decides a branch or a loop: either way, or a condition
pub data TypedGuard : Type 0 where
  Any : TypedGuard
  Cond : TypedExpression → TypedGuard

-- a condition of a specification or of a loop
pub record TypedInvariant : Type 0 where
  pub span : Span
  pub free : Bool
  pub cond : TypedExpression

-- statements, and lists of them
mutual
  pub data TypedStatement : Type 0 where
    Assert : Span → TypedExpression → TypedStatement
    Assume : Span → TypedExpression → TypedStatement
    Havoc : Span → List Column → TypedStatement
    Assign : Span → List Column → List TypedExpression → TypedStatement
    Call : Span → List Column → ℕ → List TypedExpression → TypedStatement
    If : Span → TypedGuard → TypedBlock → TypedBlock → TypedStatement
    While : Span → TypedGuard → List TypedInvariant → TypedBlock → TypedStatement
    Break : Span → ℕ → TypedStatement
    Goto : Span → List ℕ → TypedStatement
    Return : Span → TypedStatement
    Label : ℕ → TypedStatement

  pub data TypedBlock : Type 0 where
    Empty : TypedBlock
    Then : TypedStatement → TypedBlock → TypedBlock

pub data TypedSpecification : Type 0 where
  Requires : TypedInvariant → TypedSpecification
  Ensures : TypedInvariant → TypedSpecification

-- a procedure: how many parameters and results it has, and all its locals, which begin with these
pub record TypedProcedure : Type 0 where
  pub name : List ℕ
  pub params : ℕ
  pub results : ℕ
  pub locals : List VarInfo
  pub modifies : List ℕ
  pub specs : List TypedSpecification
  pub body : Option TypedBlock

pub record TypedProgram : Type 0 where
  pub globals : List VarInfo
  pub axioms : List TypedExpression
  pub procs : List TypedProcedure
  pub entry : ℕ
