use Rattle.std.proofs.Common.{◌≡◌, ◌++◌, map, drop}
use Rattle.boogie_tree.specs.View as view
use Rattle.boogie_types.specs.Sorted.{global_names}
use Rattle.boogie_types.specs.Ties.Numbers.{named_by}
use Rattle.boogie_types.proofs.sorted.names_of_globals.Given as goal

abbrev pub invariant-loop-declaration : goal.invariant-loop-declaration
invariant-loop-declaration l = named_by l.names.items ++ global_names (map view.declaration (drop l.declaration-index l.decls)) ≡ global_names (map view.declaration l.decls)
