use Rattle.std.proofs.Common.{◌∙◌, ◌++◌, ◌∷◌, [], ap}
use Rattle.lin_rows.specs.Rows.{LinearRow, IsRow}
use Rattle.letter_acts.proofs.FrameRows.LoopLaws.{all_pushed}
use Rattle.path_rows.proofs.LoopLemmas.{entries_next}
use Rattle.path_rows.proofs.rows.entry_rows.Goals as goal

pub loop-i-preserved : goal.loop-i-preserved
loop-i-preserved c = (
  entries_next c.args.first c.loop-i.i c.args.globals.now 0 c.loop-i.made.items c.push.new.self.items c.loop-i-test.true c.loop-i.invariant.0
      (c.in_ok-push.ensures.items ∙ ap (λ (r : LinearRow). c.loop-i.made.items ++ r ∷ []) c.in_ok-equal_row.ensures.value),
  all_pushed IsRow c.loop-i.made.items c.push.new.self.items _ c.in_ok-push.ensures.items c.loop-i.invariant.1 c.in_ok-equal_row.ensures.valid,
)
