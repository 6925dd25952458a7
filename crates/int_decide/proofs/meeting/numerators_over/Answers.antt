use Rattle.std.proofs.Common.{FitsSigned, ◌≡◌, [], ◌∷◌, ◌++◌, take, rules}
use Rattle.std.specs.Int.{w128}
use Rattle.std.proofs.lemmas.Int.{to_z-of_z}
use Rattle.int_decide.specs.Ties.Picking.{IsOver, AreOver}
use Rattle.int_decide.proofs.Numerators.{over_next, over_all}
use Rattle.int_decide.proofs.meeting.numerators_over.Goals as goal

pub loop-value-preserved : goal.loop-value-preserved
loop-value-preserved c =
    let f : FitsSigned w128 c.args.denominator = search rules in
    let h : AreOver c.args.denominator (take c.loop-value.value-index c.args.values.now) c.loop-value.numerators.items = simp to_z-of_z at c.loop-value.invariant in
    let o : IsOver c.args.denominator c.value-item.result c.in-Some.numerator = search rules in
    let g : FitsSigned w128 c.in-Some.numerator = search rules in
    let q : c.push.new.self.items ≡ c.loop-value.numerators.items ++ c.in-Some.numerator ∷ [] = simp to_z-of_z at c.in_ok-push.ensures.items in
    simp to_z-of_z
    (over_next c.args.denominator c.args.values.now c.loop-value.numerators.items c.push.new.self.items c.loop-value.value-index c.value-item.result c.in-Some.numerator
    c.loop-value-test.true c.value-item.is h o q)

pub returns : goal.returns
returns c =
    let f : FitsSigned w128 c.args.denominator = search rules in
    let h : AreOver c.args.denominator (take c.loop-value.value-index c.args.values.now) c.loop-value.numerators.items = simp to_z-of_z at c.loop-value.invariant in
    over_all c.args.denominator c.args.values.now c.loop-value.numerators.items c.loop-value.value-index c.loop-value-test.false h
