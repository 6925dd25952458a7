use Rattle.std.proofs.Common.{◌≡◌}
use Rattle.nested_itp.specs.NestedRefutations.Numbers.{branch_rows}
use Rattle.nested_itp.specs.TripleWalks.Goals.{plain_goal, with_roles}
use Rattle.nested_itp.proofs.triple_walks.putting.add_rows.Given as goal

abbrev pub invariant-loop-i : goal.invariant-loop-i
invariant-loop-i l = plain_goal l.goal ≡ with_roles (branch_rows l.first l.i) (plain_goal l.fn.goal)
