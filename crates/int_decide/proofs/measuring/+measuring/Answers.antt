use Rattle.std.proofs.Common.{◌≡◌, ◌+◌, ◌≤◌, List, length, ap, subst, arith}
use Rattle.std.specs.declared.vec.Vec.{Vec}
use Rattle.std.specs.declared.alloc.Global.{Global}
use Rattle.std.proofs.lemmas.List.{take_all}
use Rattle.lin_rows.specs.declared.systems.System.{System}
use Rattle.lin_rows.specs.Systems.{members_of, rows_of}
use Rattle.int_decide.proofs.SizeLaws.{GroupsMeasured, member_more, member_too_large, members_too_large, group_more, all_measured, columns_past, group_too_large, groups_too_large}
use Rattle.int_decide.proofs.measuring.+measuring.Goals as goal

pub measure-returns-then-not-are_below : goal.measure-returns-then-not-are_below
measure-returns-then-not-are_below t c = columns_past _ c.args.columns c.args.system.now (rw c.deref.ensures.value at c.if-not-are_below.ensures)

pub measure-returns-in_err-measure_members : goal.measure-returns-in_err-measure_members
measure-returns-in_err-measure_members t c =
    rw c.from_residual-in_err-measure_members.ensures
    (group_too_large _ c.args.columns c.args.system.now c.deref-group-items.result.now c.loop-group.group-index c.group-item.result
    (ap members_of c.deref-group-items.ensures.value) c.loop-group-test.true c.group-item.is c.in_err-measure_members.ensures)

pub measure-returns-in_err-sum-2 : goal.measure-returns-in_err-sum-2
measure-returns-in_err-sum-2 t c =
    let k : 4294967296 ≤ c.loop-group.sum + c.in_ok-measure_members.field-0 = omega (arith, c.in_err-sum-2.ensures) in
    rw c.from_residual-in_err-sum-2.ensures
    (λ h. groups_too_large _ c.args.columns c.loop-group.sum c.in_ok-measure_members.field-0 c.args.system.now c.deref-group-items.result.now c.loop-group.group-index
    c.group-item.result (ap members_of c.deref-group-items.ensures.value) c.loop-group-test.true c.group-item.is c.loop-group.invariant c.in_ok-measure_members.ensures.1 k)

pub measure-loop-group-preserved : goal.measure-loop-group-preserved
measure-loop-group-preserved t c =
    let k : c.loop-group.sum + c.in_ok-measure_members.field-0 ≡ c.in_ok-sum-2.sum = omega (arith, c.in_ok-sum-2.ensures) in
    group_more c.args.columns _ c.loop-group.sum c.in_ok-sum-2.sum c.in_ok-measure_members.field-0 c.deref-group-items.result.now c.loop-group.group-index
    c.group-item.result c.loop-group-test.true c.group-item.is c.loop-group.invariant c.in_ok-measure_members.ensures.0 c.in_ok-measure_members.ensures.1 k

pub measure-returns : goal.measure-returns
measure-returns t c =
    all_measured c.args.columns c.loop-group.sum c.args.system.now c.deref-group-items.result.now (ap members_of c.deref-group-items.ensures.value)
    (rw c.deref.ensures.value at c.if-not-are_below.ensures)
    (subst (λ (gs : List (Vec System Global)). GroupsMeasured c.args.columns (length (rows_of c.args.system.now)) c.loop-group.sum (members_of gs))
    (take_all _ c.deref-group-items.result.now c.loop-group-test.false) c.loop-group.invariant)

pub measure_members-returns-in_err-measure : goal.measure_members-returns-in_err-measure
measure_members-returns-in_err-measure t c =
    rw c.from_residual.ensures
    (member_too_large _ c.args.columns c.args.members.now.items c.loop-member.member-index c.member-item.result (rw c.deref-member-items.ensures.value at c.loop-member-test.true)
    (rw c.deref-member-items.ensures.value at c.member-item.is) c.in_err-measure.ensures)

pub measure_members-returns-in_err-checked_add : goal.measure_members-returns-in_err-checked_add
measure_members-returns-in_err-checked_add t c =
    let k : 4294967296 ≤ c.loop-member.sum + c.in_ok-measure.field-0 + 1 = omega (arith, c.in_err-checked_add.ensures) in
    rw (c.from_residual-in_err-checked_add.ensures, ← c.deref-member-items.ensures.value)
    (λ h. members_too_large _ c.args.columns c.loop-member.sum c.in_ok-measure.field-0 c.deref-member-items.result.now c.loop-member.member-index c.member-item.result
    c.loop-member-test.true c.member-item.is c.loop-member.invariant c.in_ok-measure.ensures.1 k)

pub measure_members-returns-in_err-sum : goal.measure_members-returns-in_err-sum
measure_members-returns-in_err-sum t c =
    let k : 4294967296 ≤ c.loop-member.sum + c.in_ok-measure.field-0 + 1 = omega (arith, c.in_ok-checked_add.ensures, c.in_err-sum.ensures) in
    rw (c.from_residual-in_err-sum.ensures, ← c.deref-member-items.ensures.value)
    (λ h. members_too_large _ c.args.columns c.loop-member.sum c.in_ok-measure.field-0 c.deref-member-items.result.now c.loop-member.member-index c.member-item.result
    c.loop-member-test.true c.member-item.is c.loop-member.invariant c.in_ok-measure.ensures.1 k)

pub measure_members-loop-member-preserved : goal.measure_members-loop-member-preserved
measure_members-loop-member-preserved t c =
    let k : c.loop-member.sum + c.in_ok-measure.field-0 + 1 ≡ c.in_ok-sum.sum = omega (arith, c.in_ok-checked_add.ensures, c.in_ok-sum.ensures) in
    member_more c.args.columns c.loop-member.sum c.in_ok-sum.sum c.in_ok-measure.field-0 c.deref-member-items.result.now c.loop-member.member-index c.member-item.result
    c.loop-member-test.true c.member-item.is c.loop-member.invariant c.in_ok-measure.ensures.0 c.in_ok-measure.ensures.1 k
