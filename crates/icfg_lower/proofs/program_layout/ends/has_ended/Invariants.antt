use Rattle.std.proofs.Common.{◌≡◌, map, drop}
use Rattle.std.specs.List.{list_all}
use Rattle.typed_tree.specs.TypedView as view
use Rattle.boogie_run.specs.BoogiePoints.Stacks.{is_label}
use Rattle.icfg_lower.proofs.program_layout.ends.has_ended.Given as goal

abbrev pub invariant-loop-left : goal.invariant-loop-left
invariant-loop-left l = list_all is_label (map view.statement (drop l.left-index l.rest)) ≡ list_all is_label (map view.statement l.rest)
