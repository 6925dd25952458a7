use Rattle.std.proofs.Common.{◌≡◌, ◌≤◌, ◌+◌, ◌-◌, length}
use Rattle.std.specs.List.{AllByRecursion}
use Rattle.version_cell.specs.Passes.{IsPassOf}
use Rattle.race_workers.specs.Ties.Parts.{IsFresh}
use Rattle.race_workers.proofs.splitting.split_all.Given as goal

abbrev pub invariant-parts : goal.invariant-parts
invariant-parts l =
    (length l.parts.items ≤ l.workers) × AllByRecursion (IsFresh l.cell 1) l.parts.items × IsPassOf l.cell l.pass
    × (l.pass ≡ record l.initial.pass { shares = l.pass.shares }) × (l.pass.shares + length l.parts.items ≡ l.workers + 1)

abbrev pub decreases-parts : goal.decreases-parts
decreases-parts l = l.workers - length l.parts.items
