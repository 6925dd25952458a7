-- What the code reads expressions in.
use Rattle.std.specs.Prelude.{ℤ, List, map}
use Rattle.typed_tree.specs.declared.types.TExpr.{TExpr}
use Rattle.typed_tree.specs.TypedView.{expression}
use Rattle.typed_tree.specs.Values.{State}
use Rattle.boogie_run.specs.declared.evaluation.Env.{Env}
use Rattle.boogie_run.specs.Steps.{values}

abbrev pub state : Env → State
state e = record { globals = e.globals.now; old = e.old.now; locals = e.locals.now }

-- what a requires of a called procedure is read in: its parameters are the arguments
abbrev pub read_in : Env → List TExpr → List ℤ → State
read_in e args globals = record { globals = globals; old = e.old.now; locals = values (state e) (map expression args) }
