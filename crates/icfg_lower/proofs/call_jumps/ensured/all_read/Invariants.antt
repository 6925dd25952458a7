use Rattle.std.proofs.Common.{◌≡◌, false, map, take}
use Rattle.typed_tree.specs.TypedView.{expression}
use Rattle.icfg_lower.specs.CallJumps.Ties.Reading.{read_by}
use Rattle.icfg_lower.specs.CallJumps.Ties.Stands.{stands_of}
use Rattle.icfg_lower.proofs.call_jumps.ensured.all_read.Given as goal

abbrev pub invariant-loop-cond : goal.invariant-loop-cond
invariant-loop-cond l = map expression l.all.items ≡ map (read_by (stands_of l.reader) false) (map expression (take l.cond-index l.conds))
