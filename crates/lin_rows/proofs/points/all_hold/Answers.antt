use Rattle.std.proofs.Common.{◌∙◌, refl, sym, subst}
use Rattle.std.specs.List.{AllByRecursion}
use Rattle.std.proofs.lemmas.Bool.{false≢true}
use Rattle.std.proofs.lemmas.List.{take_all}
use Rattle.lin_rows.specs.Rows.{Holds}
use Rattle.lin_rows.specs.Points.{point_of, IsSeenToHold}
use Rattle.lin_rows.proofs.RowLists.{all_taken, all_at}
use Rattle.lin_rows.proofs.points.all_hold.Goals as goal

pub loop-row-preserved : goal.loop-row-preserved
loop-row-preserved c =
    all_taken (Holds (point_of c.args.point.now)) c.args.rows.now c.loop-row.row-index c.row-item.result c.loop-row-test.true c.row-item.is c.loop-row.invariant
    (c.is_seen_to_hold.ensures.0 c.if-not-is_seen_to_hold.false).holds

pub returns-then-not-is_seen_to_hold : goal.returns-then-not-is_seen_to_hold
returns-then-not-is_seen_to_hold c = record {
  holds = λ t. absurd (false≢true t);
  seen = λ a.
      let yes = c.is_seen_to_hold.ensures.1
      (all_at (IsSeenToHold c.args.point.now) c.args.rows.now c.loop-row.row-index c.row-item.result c.loop-row-test.true c.row-item.is a) in
      absurd (false≢true (sym c.if-not-is_seen_to_hold.true ∙ yes));
}

pub returns : goal.returns
returns c = record {
  holds = λ t. subst (AllByRecursion (Holds (point_of c.args.point.now))) (take_all c.loop-row.row-index c.args.rows.now c.loop-row-test.false) c.loop-row.invariant;
  seen = λ a. refl;
}
