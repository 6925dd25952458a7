use Rattle.std.proofs.Common.{◌≡◌, take}
use Rattle.hoare_check.proofs.LeafLaws.{moved_by}
use Rattle.hoare_check.proofs.leaves.behind.Given as goal

abbrev pub invariant-loop-place : goal.invariant-loop-place
invariant-loop-place l = l.moved.items ≡ moved_by l.count (take l.place-index l.parts)
