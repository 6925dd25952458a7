use Rattle.std.proofs.Common.{refl, arith}
use Rattle.nwa_reduce.specs.Ties.Naming.{named}
use Rattle.nwa_reduce.proofs.CopyLemmas.{copies_none, copies_more}
use Rattle.nwa_reduce.proofs.folding.states_are_copies.Goals as goal

pub loop-state-init : goal.loop-state-init
loop-state-init c = copies_none c.args.nwa.now c.args.image.now (named c.args.names.now.of.items)

pub loop-state-preserved : goal.loop-state-preserved
loop-state-preserved c =
    copies_more c.args.nwa.now c.args.image.now (named c.args.names.now.of.items) c.loop-state.state c.loop-state.invariant (c.if-not-state_is_copy.ensures refl)

pub returns : goal.returns
returns c = λ yes q l.
    let v = c.states-state-end.ensures in
    c.loop-state.invariant q (let f = c.loop-state-test.false in let a = c.loop-state.auto.state-end in let e = v.value in omega arith)
