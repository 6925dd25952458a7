use Rattle.std.proofs.Common.{◌≡◌, ℕ, take}
use Rattle.std.specs.List.{AllByRecursion}
use Rattle.typed_tree.specs.TypingRules.TypedParts.{typed_program}
use Rattle.lowered_graph.specs.LoweredSteps.ProgramFrames.{frame_at}
use Rattle.lowered_graph.specs.LoweredSteps.Edges.{numbers_in}
use Rattle.icfg_lower.specs.ProgramLayout.Layouts.{StandsIn}
use Rattle.icfg_lower.proofs.place_edges.columns.numbers.Given as goal

abbrev pub invariant-loop-column : goal.invariant-loop-column
invariant-loop-column l =
    (n : ℕ) → AllByRecursion (StandsIn (frame_at (typed_program l.layout) n)) l.columns →
    l.found.items ≡ numbers_in (frame_at (typed_program l.layout) n) (take l.column-index l.columns)
