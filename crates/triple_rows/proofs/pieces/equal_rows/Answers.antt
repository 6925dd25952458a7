use Rattle.std.proofs.Common.{◌∙◌, ◌++◌, ◌∷◌, [], ℕ, List, map, take, sym, ap}
use Rattle.std.specs.Prelude.{slice_index}
use Rattle.std.proofs.lemmas.List.{map_more}
use Rattle.lin_rows.specs.Rows.{LinearRow}
use Rattle.letter_acts.specs.FrameRows.Rows.{equal_row}
use Rattle.triple_rows.proofs.RowLists.{rows_pushed}
use Rattle.triple_rows.proofs.pieces.equal_rows.Goals as goal

pub loop-a-preserved : goal.loop-a-preserved
loop-a-preserved c =
    let pairs = c.args.pairs.now in
    let i = c.loop-a.a-index in
    let row : ℕ × ℕ → LinearRow = λ p. equal_row (slice_index c.args.left.now p.0) (slice_index c.args.right.now p.1) in (
      c.in_ok-push.ensures.items ∙ ap (λ (rs : List LinearRow). rs ++ c.in_ok-equal_row.field-0 ∷ []) c.loop-a.invariant.0 ∙
          ap (λ (r : LinearRow). map row (take i pairs) ++ r ∷ []) c.in_ok-equal_row.ensures.value ∙ sym (map_more row pairs i (0, 0) c.loop-a-test.true),
      rows_pushed c.loop-a.made.items c.push.new.self.items c.in_ok-equal_row.field-0 c.in_ok-push.ensures.items c.loop-a.invariant.1 c.in_ok-equal_row.ensures.valid,
    )
