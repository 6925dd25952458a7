use Rattle.std.proofs.Common.{◌≡◌, ◌++◌, map, drop}
use Rattle.boogie_tree.specs.View as view
use Rattle.boogie_types.specs.Sorted.{declared_globals}
use Rattle.boogie_types.proofs.sorted.globals.Given as goal

abbrev pub invariant-loop-declaration : goal.invariant-loop-declaration
invariant-loop-declaration l = l.globals.items ++ declared_globals (map view.declaration (drop l.declaration-index l.decls)) ≡ declared_globals (map view.declaration l.decls)
