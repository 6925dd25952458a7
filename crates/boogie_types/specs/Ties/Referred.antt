-- Trees behind references, as contracts see them.
use Rattle.std.specs.Prelude.{List, [], ◌∷◌, map, Option, None, Some}
use Rattle.std.specs.Borrow.{Bor}
use Rattle.boogie_tree.specs.declared.tree.Expr.{Expr}
use Rattle.boogie_tree.specs.declared.tree.Proc.{Proc}
use Rattle.boogie_tree.specs.declared.tree.Vary.{Vary}
use Rattle.boogie_tree.specs.Tree.{Expression, Procedure}
use Rattle.boogie_tree.specs.View as view

abbrev pub expressions_by : List (Bor Expr) → List Expression
expressions_by es = map (λ e. view.expression e.now) es

abbrev pub procedures_by : List (Bor Proc) → List Procedure
procedures_by ps = map (λ p. view.procedure p.now) ps

-- a parameter, if there is one, as a list
abbrev pub parameter_by : Option (Bor Vary) → List Vary
parameter_by None = []
parameter_by (Some v) = v.now ∷ []
