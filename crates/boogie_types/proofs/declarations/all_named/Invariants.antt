use Rattle.std.proofs.Common.{◌≡◌, map, drop}
use Rattle.typed_tree.specs.TypedView as typed
use Rattle.typed_tree.specs.Scope.{seen}
use Rattle.boogie_types.specs.Naming.{each, named}
use Rattle.boogie_types.specs.Ties.Making.{made}
use Rattle.boogie_types.specs.Ties.Referred.{expressions_by}
use Rattle.boogie_types.proofs.declarations.all_named.Given as goal

abbrev pub invariant-loop-axiom : goal.invariant-loop-axiom
invariant-loop-axiom l = made (map typed.expression l.values.items) (each (named (seen l.names.scope)) (expressions_by (drop l.axiom-index l.axioms))) ≡ each (named (seen l.names.scope)) (expressions_by l.axioms)
