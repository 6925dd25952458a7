use Rattle.std.proofs.Common.{◌≡◌, drop}
use Rattle.std.specs.List.{position_from}
use Rattle.boogie_types.specs.Naming.{is_before_loop}
use Rattle.boogie_types.specs.Ties.Places.{loops_by}
use Rattle.boogie_types.proofs.places.levels.Given as goal

abbrev pub invariant-loop-level : goal.invariant-loop-level
invariant-loop-level l = position_from (is_before_loop l.label) l.level (loops_by (drop l.level l.loops)) ≡ position_from (is_before_loop l.label) 0 (loops_by l.loops)
