use Rattle.std.proofs.Common.{◌≡◌, ◌++◌, map, drop}
use Rattle.boogie_tree.specs.View as view
use Rattle.boogie_types.specs.Sorted.{axioms_of}
use Rattle.boogie_types.specs.Ties.Referred.{expressions_by}
use Rattle.boogie_types.proofs.sorted.axioms.Given as goal

abbrev pub invariant-loop-declaration : goal.invariant-loop-declaration
invariant-loop-declaration l = expressions_by l.axioms.items ++ axioms_of (map view.declaration (drop l.declaration-index l.decls)) ≡ axioms_of (map view.declaration l.decls)
