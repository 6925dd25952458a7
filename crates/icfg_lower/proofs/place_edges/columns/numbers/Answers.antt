use Rattle.std.proofs.Common.{◌∙◌, ◌++◌, ◌∷◌, [], take, ap, sym}
use Rattle.boogie_tree.specs.declared.tree.Column.TheVariants.{Global}
use Rattle.lowered_graph.specs.LoweredSteps.ProgramFrames.{frame_at, column_number}
use Rattle.lowered_graph.specs.LoweredSteps.Edges.{numbers_in}
use Rattle.icfg_lower.specs.ProgramLayout.Layouts.{StandsIn}
use Rattle.typed_tree.specs.TypingRules.TypedParts.{typed_program}
use Rattle.std.proofs.lemmas.List.{take_all}
use Rattle.icfg_lower.proofs.PlaceEdges.LeadLemmas.{each_of, one_more}
use Rattle.icfg_lower.proofs.place_edges.columns.numbers.Goals as goal

pub column-requires : goal.column-requires
column-requires c = (c.requires.0, each_of (StandsIn (frame_at (typed_program c.args.layout.now) c.requires.0)) c.args.columns.now c.loop-column.column-index (Global 0) c.loop-column-test.true c.requires.1)

pub loop-column-preserved : goal.loop-column-preserved
loop-column-preserved c = λ n h.
    (c.in_ok-push.ensures).items
    ∙ (ap (λ ns. ns ++ c.column.result ∷ []) (c.loop-column.invariant n h)
    ∙ (ap (λ m. numbers_in (frame_at (typed_program c.args.layout.now) n) (take c.loop-column.column-index c.args.columns.now) ++ m ∷ [])
    (c.column.ensures n (each_of (StandsIn (frame_at (typed_program c.args.layout.now) n)) c.args.columns.now c.loop-column.column-index (Global 0) c.loop-column-test.true h))
    ∙ sym (one_more (column_number (frame_at (typed_program c.args.layout.now) n)) c.args.columns.now c.loop-column.column-index (Global 0) c.loop-column-test.true)))

pub returns : goal.returns
returns c = λ n h. c.loop-column.invariant n h ∙ ap (numbers_in (frame_at (typed_program c.args.layout.now) n)) (take_all c.loop-column.column-index c.args.columns.now c.loop-column-test.false)
