use Rattle.std.proofs.Common.{◌≡◌, take, not}
use Rattle.std.specs.Prelude.{filter}
use Rattle.letter_acts.specs.Invariant.{is_global_at}
use Rattle.triple_rows.proofs.frames.local_targets.Given as goal

abbrev pub invariant-loop-target : goal.invariant-loop-target
invariant-loop-target l = l.locals.items ≡ filter (λ t. not (is_global_at l.frame t)) (take l.target-index l.targets)
