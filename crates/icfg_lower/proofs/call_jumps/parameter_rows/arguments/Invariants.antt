use Rattle.std.proofs.Common.{map}
use Rattle.typed_tree.specs.TypedView.{expression}
use Rattle.cond_jumps.specs.Conjs.{conjunction}
use Rattle.cond_jumps.specs.Frames.{frame_environment}
use Rattle.icfg_lower.specs.CallJumps.Ties.ParameterView.{AreSoFar}
use Rattle.icfg_lower.proofs.call_jumps.parameter_rows.arguments.Given as goal

abbrev pub invariant-loop-place : goal.invariant-loop-place
invariant-loop-place l = AreSoFar (frame_environment l.frame.columns.items) l.first l.base (map expression l.args) l.place (conjunction l.all)
