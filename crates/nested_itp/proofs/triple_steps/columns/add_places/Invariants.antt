use Rattle.std.proofs.Common.{◌≡◌, ◌+◌, ◌++◌, map, take}
use Rattle.nested_itp.proofs.triple_steps.columns.add_places.Given as goal

abbrev pub invariant-loop-i : goal.invariant-loop-i
invariant-loop-i l = l.made.items ≡ l.initial.made.items ++ map (λ c. l.at + c) (take l.i l.places.items)
