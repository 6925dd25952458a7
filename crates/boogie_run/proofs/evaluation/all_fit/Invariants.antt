use Rattle.std.proofs.Common.{map, drop}
use Rattle.typed_tree.specs.TypedView as view
use Rattle.boogie_run.specs.Fitting.{AllFit}
use Rattle.boogie_run.specs.Ties.Environments.{state}
use Rattle.boogie_run.proofs.evaluation.all_fit.Given as goal

abbrev pub invariant-loop-expr : goal.invariant-loop-expr
invariant-loop-expr l = AllFit (state l.env) (map view.expression (drop l.expr-index l.exprs)) → AllFit (state l.env) (map view.expression l.exprs)
