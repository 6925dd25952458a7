use Rattle.std.proofs.Common.{◌≡◌, false}
use Rattle.race_rounds.proofs.concrete_walks.walkers.Walker.slice.Given as goal

abbrev pub invariant-loop : goal.invariant-loop
invariant-loop l = record { now : l.self-inside.found ≡ false; before : l.fn.self.found ≡ false }
