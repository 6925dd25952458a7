use Rattle.std.proofs.Common.{◌≡◌, ◌++◌, map, drop}
use Rattle.boogie_tree.specs.View as view
use Rattle.boogie_types.specs.Sorted.{procedures_of}
use Rattle.boogie_types.specs.Ties.Referred.{procedures_by}
use Rattle.boogie_types.proofs.sorted.procedures.Given as goal

abbrev pub invariant-loop-declaration : goal.invariant-loop-declaration
invariant-loop-declaration l = procedures_by l.procedures.items ++ procedures_of (map view.declaration (drop l.declaration-index l.decls)) ≡ procedures_of (map view.declaration l.decls)
