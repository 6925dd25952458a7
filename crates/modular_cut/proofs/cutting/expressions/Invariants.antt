use Rattle.std.proofs.Common.{◌≡◌, ◌++◌, map, drop}
use Rattle.typed_tree.specs.TypedView as view
use Rattle.modular_cut.proofs.cutting.expressions.Given as goal

abbrev pub invariant-loop-part : goal.invariant-loop-part
invariant-loop-part l = map view.expression l.copied.items ++ map view.expression (drop l.part-index l.all) ≡ map view.expression l.all
