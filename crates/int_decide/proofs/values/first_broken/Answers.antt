use Rattle.std.proofs.Common.{FitsSigned, of_z, ap, ◌∙◌, rules}
use Rattle.std.specs.Int.{w128}
use Rattle.std.proofs.lemmas.Int.{to_z-of_z}
use Rattle.int_decide.proofs.Broken.{broken_here}
use Rattle.int_decide.proofs.values.first_broken.Goals as goal

pub returns-then-den-ne1-clause-value : goal.returns-then-den-ne1-clause-value
returns-then-den-ne1-clause-value c =
    let f : FitsSigned w128 c.floor.result = search rules in
    let e = broken_here c.args.values.now c.loop-value.value-index c.loop-value.column c.value-item.result c.floor.result c.loop-value-test.true c.value-item.is
    c.loop-value.invariant.column c.loop-value.invariant.broken (λ z. c.if-den-ne1.true (ap (λ x. of_z w128 x) (c.den.ensures.value ∙ z))) c.den.ensures.valid
    c.floor.ensures.not_above c.floor.ensures.greatest in
    rw to_z-of_z e
