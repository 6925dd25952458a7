use Rattle.std.proofs.Common.{◌≡◌, map, take}
use Rattle.typed_tree.specs.TypedView.{expression}
use Rattle.icfg_lower.specs.CallJumps.Ties.Stands.{stand_of, argument_stand}
use Rattle.icfg_lower.proofs.call_jumps.standings.standings.Given as goal

abbrev pub invariant-loop-arg : goal.invariant-loop-arg
invariant-loop-arg l = map stand_of l.standings.items ≡ map (argument_stand l.frame.columns.items) (map expression (take l.arg-index l.args))
