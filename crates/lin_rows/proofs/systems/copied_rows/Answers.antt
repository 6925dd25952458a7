use Rattle.std.proofs.Common.{sym, subst}
use Rattle.std.specs.List.{AllByRecursion}
use Rattle.lin_rows.specs.Rows.{IsRow}
use Rattle.lin_rows.proofs.RowLists.{all_pushed, copied_next}
use Rattle.lin_rows.proofs.systems.copied_rows.Goals as goal

pub loop-row-preserved : goal.loop-row-preserved
loop-row-preserved c = record {
  copies = copied_next c.args.rows.now c.loop-row.copies.items c.push.new.self.items c.loop-row.row-index c.row-item.result c.in_ok-copy.field-0
      c.loop-row-test.true c.row-item.is c.in_ok-copy.ensures.value c.in_ok-push.ensures.items c.loop-row.invariant.copies;
  valid = subst (AllByRecursion IsRow) (sym c.in_ok-push.ensures.items)
      (all_pushed IsRow c.loop-row.copies.items c.in_ok-copy.field-0 c.loop-row.invariant.valid
      (subst IsRow (sym c.in_ok-copy.ensures.value) c.in_ok-copy.ensures.valid));
}
