use Rattle.std.proofs.Common.{◌≡◌, ◌∙◌, ◌<◌, ◌≤◌, length, sym, arith}
use Rattle.hoare_check.proofs.FalseRowLaws.{row_at_is}
use Rattle.hoare_check.proofs.leaves.place_of.Goals as goal

pub returns-then-is_same_row : goal.returns-then-is_same_row
returns-then-is_same_row c =
    let low : c.args.first ≤ c.args.likely = omega arith in
    let within : c.args.likely < length c.args.rows.now = omega arith in
    let same : c.args.row.now ≡ c.index-rows-likely.result = c.is_same_row.ensures.0 c.if-is_same_row.true in
    (low, within, same ∙ sym (row_at_is c.args.rows.now c.args.likely c.index-rows-likely.result within c.index-rows-likely.is))

pub returns-then-is_same_row-2 : goal.returns-then-is_same_row-2
returns-then-is_same_row-2 c =
    let low : c.args.first ≤ c.loop-place.place = omega arith in
    let within : c.loop-place.place < length c.args.rows.now = omega arith in
    let same : c.args.row.now ≡ c.index-rows-place.result = c.is_same_row-in-loop-place.ensures.0 c.if-is_same_row-2.true in
    (low, within, same ∙ sym (row_at_is c.args.rows.now c.loop-place.place c.index-rows-place.result within c.index-rows-place.is))
