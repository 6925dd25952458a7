use Rattle.std.proofs.Common.{◌≡◌, ◌++◌, drop}
use Rattle.std.specs.Prelude.{filter, not}
use Rattle.letter_acts.specs.Reading.{is_listed}
use Rattle.nested_itp.proofs.triple_steps.ties.without.Given as goal

abbrev pub invariant-loop-i : goal.invariant-loop-i
invariant-loop-i l = l.left.items ++ filter (λ c. not (is_listed l.targets c)) (drop l.i l.columns) ≡ filter (λ c. not (is_listed l.targets c)) l.columns
