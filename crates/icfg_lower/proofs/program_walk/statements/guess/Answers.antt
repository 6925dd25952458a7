use Rattle.std.proofs.Common.{sym, subst}
use Rattle.typed_tree.specs.TypingRules.TypedParts.{TypedParts, typed_program}
use Rattle.lowered_graph.specs.LoweredSteps.ProgramFrames.{frame_at}
use Rattle.icfg_lower.specs.ProgramLayout.Layouts.{StandsIn}
use Rattle.icfg_lower.proofs.program_walk.statements.guess.Goals as goal

pub column-written-requires : goal.column-written-requires
column-written-requires c = (c.args.here.proc, subst (λ (x : TypedParts). StandsIn (frame_at (typed_program x) c.args.here.proc) c.args.column) (sym c.layout.ensures) c.requires)
