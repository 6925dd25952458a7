use Rattle.std.proofs.Common.{take, ◌<◌}
use Rattle.std.specs.List.{AllByRecursion}
use Rattle.lin_rows.specs.Rows.{AscendsFrom}
use Rattle.hoare_check.proofs.LeafLaws.{AreCarried}
use Rattle.hoare_check.proofs.leaves.carried.Given as goal

abbrev pub invariant-loop-place : goal.invariant-loop-place
invariant-loop-place l = record {
  carried : AreCarried l.count l.from l.to (take l.place-index l.parts) l.moved.items;
  ascends : AscendsFrom 0 l.moved.items;
  below : AllByRecursion (λ x. x.0 < l.next) l.moved.items;
}
