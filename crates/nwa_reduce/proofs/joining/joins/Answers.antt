use Rattle.std.proofs.Common.{arith}
use Rattle.nwa_reduce.proofs.JoinLemmas.{below_none, below_more, below_all}
use Rattle.nwa_reduce.proofs.joining.joins.Goals as goal

pub loop-entry-init : goal.loop-entry-init
loop-entry-init c = below_none c.args.nwa.now _

pub loop-entry-preserved : goal.loop-entry-preserved
loop-entry-preserved c = below_more c.args.nwa.now c.loop-entry.entry c.loop-entry.joins.items _ c.loop-entry.invariant c.in_ok-join_entry.ensures

pub returns : goal.returns
returns c =
    let v = c.states-entry-end.ensures in
    below_all c.args.nwa.now c.loop-entry.entry c.loop-entry.joins.items v.valid
    (let l = c.loop-entry-test.false in let a = c.loop-entry.auto.entry-end in let e = v.value in omega arith) c.loop-entry.invariant
