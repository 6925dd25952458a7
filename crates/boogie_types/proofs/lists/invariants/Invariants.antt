use Rattle.std.proofs.Common.{◌≡◌, map, drop}
use Rattle.boogie_tree.specs.View as view
use Rattle.typed_tree.specs.TypedView as typed
use Rattle.typed_tree.specs.Scope.{seen}
use Rattle.boogie_types.specs.Naming.{each, named_invariant}
use Rattle.boogie_types.specs.Ties.Making.{made}
use Rattle.boogie_types.proofs.lists.invariants.Given as goal

abbrev pub invariant-loop-each : goal.invariant-loop-each
invariant-loop-each l = made (map typed.invariant l.conditions.items) (each (named_invariant (seen l.names.scope)) (map view.invariant (drop l.each-index l.invariants))) ≡ each (named_invariant (seen l.names.scope)) (map view.invariant l.invariants)
