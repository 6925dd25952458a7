use Rattle.std.proofs.Common.{◌∙◌}
use Rattle.icfg_lower.proofs.building.add_all_sites.Goals as goal

pub loop-proc-preserved : goal.loop-proc-preserved
loop-proc-preserved c = c.in_ok-add_sites.ensures ∙ c.loop-proc.invariant
