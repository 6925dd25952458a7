use Rattle.std.proofs.Common.{◌≡◌, drop}
use Rattle.typed_tree.specs.Scope.{seen}
use Rattle.boogie_types.specs.Naming.{columns_of}
use Rattle.boogie_types.specs.Ties.Making.{made}
use Rattle.boogie_types.proofs.lists.columns.Given as goal

abbrev pub invariant-loop-target : goal.invariant-loop-target
invariant-loop-target l = made l.columns.items (columns_of (seen l.names.scope) (drop l.target-index l.targets)) ≡ columns_of (seen l.names.scope) l.targets
