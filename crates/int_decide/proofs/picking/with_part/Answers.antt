use Rattle.std.proofs.Common.{FitsSigned, rules, ◌≡◌}
use Rattle.std.specs.Prelude.{IfOk}
use Rattle.std.specs.Int.{w128}
use Rattle.std.proofs.lemmas.Int.{to_z-of_z}
use Rattle.lin_rows.specs.Sums.{CanScale, scaled_sum}
use Rattle.int_decide.proofs.Rationals.{made_implied}
use Rattle.int_decide.proofs.picking.with_part.Goals as goal

pub returns : goal.returns
returns c =
    let s : CanScale c.args.multiplier c.args.part.now.kind = search rules in
    let f : FitsSigned w128 c.args.multiplier = search rules in
    let v : IfOk c.add_scaled.result (λ r. r ≡ scaled_sum c.args.sum.now c.args.multiplier c.args.part.now) = simp to_z-of_z at c.add_scaled.ensures.value in
    made_implied c.args.sum.now c.args.part.now c.args.multiplier c.add_scaled.result c.known.result s v c.known.ensures
