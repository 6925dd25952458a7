use Rattle.std.proofs.Common.{◌≡◌, false, [], map, drop}
use Rattle.std.specs.List.{flat_map}
use Rattle.typed_tree.specs.TypedView.{expression}
use Rattle.explain_top.specs.RunStory.Notes.{once, columns_in}
use Rattle.explain_top.proofs.run_story.reading.columns_of.Given as goal

abbrev pub invariant-loop-expr : goal.invariant-loop-expr
invariant-loop-expr l = once l.found.keys (flat_map (columns_in false) (map expression (drop l.expr-index l.exprs))) ≡ once [] (flat_map (columns_in false) (map expression l.exprs))
