use Rattle.std.proofs.Common.{ap, sym}
use Rattle.race_core.specs.declared.events.Why.{Why}
use Rattle.race_workers.specs.Ties.Parts.{turn_after}
use Rattle.race_workers.proofs.offering.after_refusal.Goals as goal

pub returns-in-Ended : goal.returns-in-Ended
returns-in-Ended g c = sym (ap (λ (w : Why). turn_after w c.args.refused.entry) c.in-Ended.is)
