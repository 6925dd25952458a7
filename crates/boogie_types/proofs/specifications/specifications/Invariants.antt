use Rattle.std.proofs.Common.{◌≡◌, map, drop}
use Rattle.boogie_tree.specs.View as view
use Rattle.typed_tree.specs.TypedView as typed
use Rattle.typed_tree.specs.Scope.{seen}
use Rattle.boogie_types.specs.Ties.Making.{made}
use Rattle.boogie_types.specs.Ties.Specifications.{specifications_in}
use Rattle.boogie_types.proofs.specifications.specifications.Given as goal

abbrev pub invariant-loop-spec : goal.invariant-loop-spec
invariant-loop-spec l = made (map typed.specification l.named.items) (specifications_in (seen l.before.scope) (seen l.after.scope) (map view.specification (drop l.spec-index l.specs))) ≡ specifications_in (seen l.before.scope) (seen l.after.scope) (map view.specification l.specs)
