use Rattle.std.proofs.Common.{FitsSigned, of_z, ap, ◌∙◌, rules, ℕ, suc, ◌≡◌, ◌-◌, ◌≤◌, ◌+◌, length, to_z, sym, arith}
use Rattle.std.specs.Prelude.{IfOk, IsTrue}
use Rattle.std.specs.Int.{w128}
use Rattle.std.proofs.lemmas.Int.{to_z-of_z}
use Rattle.int_decide.specs.Ties.Picking.{IsApart, ArePicked}
use Rattle.int_decide.proofs.PickedValues.{apart_ends}
use Rattle.int_decide.proofs.ShownValues.{nearest_goes}
use Rattle.int_decide.proofs.picking.are_picked.Goals as goal

pub returns-then-den-ne1 : goal.returns-then-den-ne1
returns-then-den-ne1 c =
    let f : FitsSigned w128 c.floor.result = search rules in
    let a : IfOk c.is_apart.result (λ yes. IsTrue yes → IsApart c.loop-left.rows.items c.loop-left.column c.floor.result) = simp to_z-of_z at c.is_apart.ensures in
    apart_ends c.is_apart.result c.loop-left.rows.items c.loop-left.column c.loop-left.left.now c.value-item.result c.floor.result
    (ArePicked c.args.rows.now.items 0 c.args.values.now) c.in-len1-up.len_at_least c.value-item.is c.den.ensures.valid.lowest
    (λ z. c.if-den-ne1.true (ap (λ x. of_z w128 x) (c.den.ensures.value ∙ z))) c.floor.ensures.not_above c.floor.ensures.greatest c.loop-left.invariant a

pub loop-left-init : goal.loop-left-init
loop-left-init c = λ a. a

pub loop-left-preserved : goal.loop-left-preserved
loop-left-preserved c =
    let f : FitsSigned w128 c.den.result = search rules in
    let g : FitsSigned w128 c.num.result = search rules in
    let one = simp to_z-of_z at (ap (λ (n : ℕ). to_z w128 n) c.if-den-ne1.false) in
    let shown = rw c.num.ensures.value at (simp to_z-of_z at c.in_ok-take_nearest.ensures) in
    let near = shown c.if-not-branch.false in
    let after : c.in-Some.next ≡ suc c.loop-left.column = omega arith in
    let long : length c.loop-left.left.now ≤ (length c.loop-left.left.now - 1) + 1 = omega arith in
    nearest_goes c.loop-left.rows.items c.take_nearest.new.rows.items c.loop-left.column c.in-Some.next c.loop-left.left.now (length c.loop-left.left.now - 1) c.value-item.result
    (ArePicked c.args.rows.now.items 0 c.args.values.now) c.in-len1-up.len_at_least c.value-item.is long (sym c.den.ensures.value ∙ one) near.0 near.1 after c.loop-left.invariant
