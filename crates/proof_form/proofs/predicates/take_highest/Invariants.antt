use Rattle.std.proofs.Common.{◌-◌}
use Rattle.proof_form.proofs.HeightLaws.{Taking}
use Rattle.proof_form.proofs.predicates.take_highest.Given as goal

abbrev pub invariant-loop-turn : goal.invariant-loop-turn
invariant-loop-turn l = Taking l.heights.items (l.count - l._turn) l.highest l.fn.heights.items l.fn.count
