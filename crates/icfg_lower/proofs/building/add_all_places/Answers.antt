use Rattle.std.proofs.Common.{◌∙◌}
use Rattle.icfg_lower.proofs.building.add_all_places.Goals as goal

pub loop-proc-preserved : goal.loop-proc-preserved
loop-proc-preserved c = c.in_ok-add_places.ensures ∙ c.loop-proc.invariant
