use Rattle.std.proofs.Common.{arith}
use Rattle.boogie_types.proofs.Weights.{member_weight}
use Rattle.boogie_types.proofs.label_names.+label_names.Goals as goal

pub add_labels-add_inside-requires : goal.add_labels-add_inside-requires
add_labels-add_inside-requires t c =
    let w = member_weight c.args.statements.now _ _ c.loop-each-test.true c.each-item.is in let d = c.decreases in (omega arith, tt)
