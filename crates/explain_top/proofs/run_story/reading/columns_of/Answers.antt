use Rattle.std.proofs.Common.{false, [], map}
use Rattle.std.specs.List.{flat_map}
use Rattle.typed_tree.specs.TypedView.{expression}
use Rattle.explain_top.specs.RunStory.Notes.{once, columns_in}
use Rattle.explain_top.proofs.RunStory.ReadingLemmas.{once_next}
use Rattle.explain_top.proofs.run_story.reading.columns_of.Goals as goal

pub loop-expr-preserved : goal.loop-expr-preserved
loop-expr-preserved c =
    once_next c.loop-expr.found.keys c.columns.new.found.keys (once [] (flat_map (columns_in false) (map expression c.args.exprs.now))) c.args.exprs.now c.loop-expr.expr-index c.expr-item.result
    c.loop-expr-test.true c.expr-item.is c.loop-expr.invariant c.in_ok-columns.ensures
