use Rattle.std.proofs.Common.{◌≡◌, ◌++◌, map, drop}
use Rattle.boogie_tree.specs.Printing.{continued}
use Rattle.boogie_tree.proofs.printing.lists.more.Given as goal

abbrev pub invariant-loop-item : goal.invariant-loop-item
invariant-loop-item g l = l.out.items ++ continued (map g.T.Item.text (drop l.item-index l.items)) ≡ l.fn.out.items ++ continued (map g.T.Item.text l.items)
