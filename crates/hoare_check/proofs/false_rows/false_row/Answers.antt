use Rattle.std.proofs.Common.{◌<◌, length, arith}
use Rattle.hoare_check.proofs.FalseRowLaws.{false_at}
use Rattle.hoare_check.proofs.false_rows.false_row.Goals as goal

pub returns-then-is_false : goal.returns-then-is_false
returns-then-is_false c =
    let within : c.loop-place.place < length c.args.rows.now = omega arith in
    false_at c.try_from.result c.args.rows.now c.loop-place.place c.index-rows-place.result c.ok.result c.ok.ensures.value c.try_from.ensures within c.index-rows-place.is
    (c.is_false.ensures c.if-is_false.true)
