use Rattle.std.proofs.Common.{◌≡◌, ◌++◌, ℕ, drop, eqb}
use Rattle.std.specs.HashMap.{get}
use Rattle.nwa_base.specs.Groups.{grouped}
use Rattle.nested_itp.specs.NestedPredicates.Runnings.{parts_at}
use Rattle.nested_itp.proofs.nested_predicates.leaves.parts_by_stamp.Given as goal

abbrev pub invariant-loop-part : goal.invariant-loop-part
invariant-loop-part l = (s : ℕ) → grouped (get eqb l.groups.by_key s) ++ parts_at l.stamps s (drop l.part-index l.parts) ≡ parts_at l.stamps s l.parts
