use Rattle.std.proofs.Common.{◌≡◌, ◌++◌, map, drop}
use Rattle.boogie_tree.specs.View as view
use Rattle.boogie_types.specs.Sorted.{implementations_of}
use Rattle.boogie_types.specs.Ties.Referred.{procedures_by}
use Rattle.boogie_types.proofs.sorted.implementations.Given as goal

abbrev pub invariant-loop-declaration : goal.invariant-loop-declaration
invariant-loop-declaration l = procedures_by l.implementations.items ++ implementations_of (map view.declaration (drop l.declaration-index l.decls)) ≡ implementations_of (map view.declaration l.decls)
