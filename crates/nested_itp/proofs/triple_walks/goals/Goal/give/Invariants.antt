use Rattle.std.proofs.Common.{◌≡◌, take}
use Rattle.nested_itp.specs.NestedRefutations.Refutations.{atom_roles}
use Rattle.nested_itp.specs.TripleWalks.Goals.{plain_goal, with_roles, with_exposed}
use Rattle.nested_itp.proofs.triple_walks.goals.Goal.give.Given as goal

abbrev pub invariant-loop-i : goal.invariant-loop-i
invariant-loop-i l = plain_goal l.self ≡ with_roles (atom_roles l.is_used l.claim (take l.i l.exposed.leaves.items)) (plain_goal l.fn.self)

abbrev pub invariant-loop-i-2 : goal.invariant-loop-i-2
invariant-loop-i-2 l = plain_goal l.self ≡ with_exposed l.claim l.is_used l.exposed.leaves.items (take l.i l.exposed.groups.items) (plain_goal l.fn.self)
