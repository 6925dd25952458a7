use Rattle.std.proofs.Common.{◌≡◌, ◌++◌, map, drop}
use Rattle.typed_tree.specs.TypedView as view
use Rattle.typed_tree.proofs.typing_rules.copying.procedures.Given as goal

abbrev pub invariant-loop-part : goal.invariant-loop-part
invariant-loop-part l = map view.procedure l.copied.items ++ map view.procedure (drop l.part-index l.part-items) ≡ map view.procedure l.part-items
