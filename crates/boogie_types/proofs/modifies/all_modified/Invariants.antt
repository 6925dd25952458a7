use Rattle.std.proofs.Common.{◌≡◌, map, drop}
use Rattle.boogie_tree.specs.View as view
use Rattle.boogie_types.specs.Sorted.{modified_in}
use Rattle.boogie_types.specs.Ties.Modified.{modified_numbers}
use Rattle.boogie_types.specs.Ties.Making.{made}
use Rattle.boogie_types.proofs.modifies.all_modified.Given as goal

abbrev pub invariant-loop-spec : goal.invariant-loop-spec
invariant-loop-spec l = made l.numbers.items (modified_numbers l.declared.globals.now (modified_in (map view.specification (drop l.spec-index l.specs)))) ≡ modified_numbers l.declared.globals.now (modified_in (map view.specification l.specs))
