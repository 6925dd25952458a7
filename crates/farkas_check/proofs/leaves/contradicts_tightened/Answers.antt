use Rattle.std.proofs.Common.{pos, FitsSigned, get_or, map, rules}
use Rattle.lin_rows.specs.Tightening.{tightened}
use Rattle.std.specs.Int.{w128}
use Rattle.std.proofs.lemmas.Bool.{false≢true}
use Rattle.std.proofs.lemmas.Int.{to_z-of_z}
use Rattle.farkas_check.proofs.LeafSteps.{ContradictsFrom_start, ContradictsFrom-drop_more, ContradictsFrom-drop_none, ContradictsFrom-drop_all}
use Rattle.farkas_check.proofs.leaves.contradicts_tightened.Goals as goal

pub loop-number-init : goal.loop-number-init
loop-number-init c = ContradictsFrom_start (map tightened c.args.rows.now) c.args.parts.now _ c.new-sum.ensures.columns c.new-sum.ensures.bound

pub returns-in_default : goal.returns-in_default
returns-in_default c =
    let l = c.loop-number in
    let f : FitsSigned w128 (get_or c.args.parts.now c.loop-number.number-index (0, pos 0)).1 = search rules in
    let n = simp to_z-of_z at (rw c.in_default.is at c.in_ok-after.ensures) in (
      λ e. absurd (false≢true e),
      λ w. absurd (ContradictsFrom-drop_none (map tightened c.args.rows.now) l.next l.sum c.args.parts.now l.number-index (0, pos 0) c.loop-number-test.true n (l.invariant.1 w)),
    )

pub loop-number-preserved : goal.loop-number-preserved
loop-number-preserved c =
    let l = c.loop-number in
    let f : FitsSigned w128 (get_or c.args.parts.now c.loop-number.number-index (0, pos 0)).1 = search rules in
    let a = simp to_z-of_z at (rw c.in-Some.is at c.in_ok-after.ensures) in
    let more = ContradictsFrom-drop_more (map tightened c.args.rows.now) l.next l.sum c.args.parts.now l.number-index (0, pos 0) c.in-Some.after _ c.loop-number-test.true a in
    (λ w. l.invariant.0 (more.0 w), λ w. more.1 (l.invariant.1 w))

pub returns : goal.returns
returns c =
    let l = c.loop-number in
    let end = ContradictsFrom-drop_all (map tightened c.args.rows.now) l.next l.sum c.args.parts.now l.number-index c.loop-number-test.false in
    (λ yes. l.invariant.0 (end.1 (c.is_contradiction.ensures.0 yes)), λ w. c.is_contradiction.ensures.1 (end.0 (l.invariant.1 w)))
