use Rattle.std.proofs.Common.{◌≡◌, ◌++◌, map, drop}
use Rattle.typed_tree.specs.TypedView as view
use Rattle.typed_tree.proofs.+statements.Given as goal

abbrev pub invariant-copying::statements-loop-part : goal.invariant-copying::statements-loop-part
invariant-copying::statements-loop-part l = map view.statement l.copied.items ++ map view.statement (drop l.part-index l.part-items) ≡ map view.statement l.part-items
