use Rattle.std.proofs.Common.{◌≡◌, map, drop}
use Rattle.boogie_tree.specs.View as view
use Rattle.typed_tree.specs.TypedView as typed
use Rattle.typed_tree.specs.Scope.{seen}
use Rattle.boogie_types.specs.Naming.{each, named}
use Rattle.boogie_types.specs.Ties.Making.{made}
use Rattle.boogie_types.proofs.lists.all_named.Given as goal

abbrev pub invariant-loop-expr : goal.invariant-loop-expr
invariant-loop-expr l = made (map typed.expression l.values.items) (each (named (seen l.names.scope)) (map view.expression (drop l.expr-index l.exprs))) ≡ each (named (seen l.names.scope)) (map view.expression l.exprs)
