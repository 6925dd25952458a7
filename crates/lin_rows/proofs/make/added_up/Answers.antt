use Rattle.std.proofs.Common.{sym}
use Rattle.std.proofs.lemmas.Bool.{eqb-true}
use Rattle.std.proofs.lemmas.List.{nil_from_length}
use Rattle.lin_rows.proofs.MakingLemmas.{making_goes, making_stops, making_ends}
use Rattle.lin_rows.proofs.make.added_up.Goals as goal

pub returns-in_default : goal.returns-in_default
returns-in_default c =
    let h = rw (c.as_slice.ensures, c.split_at.ensures.front) at (rw c.in_default.is at c.in_ok-next.ensures) in
    making_stops c.args.terms.now c.loop-left.sum.items c.loop-left.left.now c.ascending_len.result c.loop-left.invariant c.ascending_len.ensures.ascends h

pub loop-left-preserved : goal.loop-left-preserved
loop-left-preserved c =
    let h = rw (c.as_slice.ensures, c.split_at.ensures.front) at (rw c.in-Some.is at c.in_ok-next.ensures) in
    rw c.split_at.ensures.back
    (making_goes c.args.terms.now c.loop-left.sum.items c.loop-left.left.now c.in-Some.next.items c.ascending_len.result c.loop-left.invariant c.ascending_len.ensures.ascends h)

pub returns : goal.returns
returns c =
    making_ends c.args.terms.now c.loop-left.sum.items c.loop-left.left.now c.loop-left.invariant
    (nil_from_length c.loop-left.left.now (eqb-true _ 0 (sym c.loop-left-test.ensures)))
