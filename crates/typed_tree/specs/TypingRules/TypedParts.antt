-- The parts of a typed program as the code keeps them, and the program that they are.
use Rattle.std.specs.Prelude.{ℕ, List, map}
use Rattle.typed_tree.specs.declared.types.TExpr.{TExpr}
use Rattle.typed_tree.specs.declared.types.TProc.{TProc}
use Rattle.boogie_tree.specs.declared.tree.VarInfo.{VarInfo}
use Rattle.typed_tree.specs.TypedTree.{TypedProgram}
use Rattle.typed_tree.specs.TypedView.{expression, procedure}

pub record TypedParts : Type 0 where
  pub globals : List VarInfo
  pub axioms : List TExpr
  pub procs : List TProc
  pub entry : ℕ

-- without places in memory
abbrev pub typed_program : TypedParts → TypedProgram
typed_program t = record { globals = t.globals; axioms = map expression t.axioms; procs = map procedure t.procs; entry = t.entry }

-- the program of these parts, with the entry 0
abbrev pub program_of : List VarInfo → List TExpr → List TProc → TypedProgram
program_of globals axioms procs = record { globals = globals; axioms = map expression axioms; procs = map procedure procs; entry = 0 }
