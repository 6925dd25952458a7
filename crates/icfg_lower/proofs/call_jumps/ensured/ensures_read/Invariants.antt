use Rattle.std.proofs.Common.{◌≡◌, false, map, take}
use Rattle.typed_tree.specs.TypedView.{expression, specification}
use Rattle.icfg_lower.specs.CallJumps.CallLists.{ensured}
use Rattle.icfg_lower.specs.CallJumps.Ties.Reading.{read_by}
use Rattle.icfg_lower.specs.CallJumps.Ties.Stands.{stands_of}
use Rattle.icfg_lower.proofs.call_jumps.ensured.ensures_read.Given as goal

abbrev pub invariant-loop-spec : goal.invariant-loop-spec
invariant-loop-spec l =
    map expression l.conds.items ≡ map (read_by (stands_of l.reader) false) (ensured (map specification (take l.spec-index l.specs)))
