use Rattle.std.proofs.Common.{◌≡◌}
use Rattle.nested_itp.specs.NestedRefutations.Numbers.{spares}
use Rattle.nested_itp.specs.TripleWalks.Goals.{plain_goal, with_roles}
use Rattle.nested_itp.proofs.triple_walks.putting.add_spares.Given as goal

abbrev pub invariant-loop-i : goal.invariant-loop-i
invariant-loop-i l = plain_goal l.goal ≡ with_roles (spares l._i) (plain_goal l.fn.goal)
