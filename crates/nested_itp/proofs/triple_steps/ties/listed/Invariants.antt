use Rattle.std.proofs.Common.{◌≡◌, ℕ, take, nat_eq}
use Rattle.std.specs.HashSet.{contains}
use Rattle.letter_acts.specs.Reading.{is_listed}
use Rattle.nested_itp.proofs.triple_steps.ties.listed.Given as goal

abbrev pub invariant-loop-i : goal.invariant-loop-i
invariant-loop-i l = (c : ℕ) → contains nat_eq l.listed c ≡ is_listed (take l.i l.targets) c
