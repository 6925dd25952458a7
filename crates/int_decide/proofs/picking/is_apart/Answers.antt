use Rattle.std.proofs.Common.{FitsSigned}
use Rattle.std.specs.Int.{w128}
use Rattle.std.proofs.lemmas.Int.{to_z-of_z}
use Rattle.std.proofs.lemmas.Bool.{false≢true}
use Rattle.int_decide.proofs.SearchSteps.{apart_found}
use Rattle.int_decide.proofs.picking.is_apart.Goals as goal

pub returns-then-branch : goal.returns-then-branch
returns-then-branch c =
    let f : FitsSigned w128 c.args.k = c.ranges.k in
    let below = simp to_z-of_z at c.in_ok-refutes_at_most.ensures.refuted in
    apart_found c.args.rows.now.items c.refutes_at_most.new.rows.items c.args.column c.args.k c.refutes_above.result c.in_ok-refutes_at_most.ensures.same (below c.if-branch.true)
    (simp to_z-of_z at c.refutes_above.ensures.refuted)

pub returns-else-branch : goal.returns-else-branch
returns-else-branch c = λ t. absurd (false≢true t)
