use Rattle.std.proofs.Common.{◌≡◌, ◌++◌, map, drop}
use Rattle.cond_jumps.specs.Moving.{moved_row}
use Rattle.cond_jumps.proofs.joining.add_moved.Given as goal

abbrev pub invariant-loop-other : goal.invariant-loop-other
invariant-loop-other l =
    l.rows.items ++ map (moved_row l.base l.by) (drop l.other-index l.others) ≡ l.fn.rows.items ++ map (moved_row l.base l.by) l.others
