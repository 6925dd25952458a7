use Rattle.std.proofs.Common.{◌≡◌, ◌++◌, map, drop}
use Rattle.boogie_tree.specs.Printing.{specifications_text}
use Rattle.boogie_tree.specs.View as view
use Rattle.boogie_tree.proofs.printing.declarations.specifications.Given as goal

abbrev pub invariant-loop-spec : goal.invariant-loop-spec
invariant-loop-spec l = l.out.items ++ specifications_text (map view.specification (drop l.spec-index l.specs)) ≡ l.fn.out.items ++ specifications_text (map view.specification l.specs)
