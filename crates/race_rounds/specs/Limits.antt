-- Which limits may be asked for.
use Rattle.std.specs.Prelude.{◌≤◌}
use Rattle.race_rounds.specs.declared.limits.Limits.{Limits}

-- a round to 100000, a worker to 64, and no cut to 64
pub record AreInRange (l : Limits) : Type 0 where
  pub rounds : (1 ≤ l.rounds) × (l.rounds ≤ 100000)
  pub workers : (1 ≤ l.workers) × (l.workers ≤ 64)
  pub depth : l.depth ≤ 64
