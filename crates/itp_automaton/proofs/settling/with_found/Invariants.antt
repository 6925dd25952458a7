use Rattle.std.proofs.Common.{◌≡◌, ◌++◌}
use Rattle.std.specs.List.{flat_map}
use Rattle.itp_automaton.proofs.settling.with_found.Given as goal

abbrev pub invariant-loop-more : goal.invariant-loop-more
invariant-loop-more l = l.proofs.items ≡ l.initial.proofs.items ++ flat_map (λ more. more.items) l.yielded
