use Rattle.std.proofs.lemmas.Simd.{map-map}
use Rattle.boogie_tree.specs.Printing.{expression_text}
use Rattle.boogie_tree.specs.View as view
use Rattle.boogie_tree.proofs.printing.lists.expressions.Goals as goal

pub returns : goal.returns
returns c = rw (map-map expression_text view.expression c.args.expressions.now) c.list.ensures
