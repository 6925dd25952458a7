use Rattle.std.proofs.Common.{arith}
use Rattle.nested_itp.proofs.NestedPredicates.BaseLaws.{no_zero, one_zero}
use Rattle.nested_itp.proofs.nested_predicates.running.Running.start.Goals as goal

pub loop-v-init : goal.loop-v-init
loop-v-init c = no_zero c.in_ok-columns.columns.items c.in_ok-columns.ensures.items

pub loop-v-preserved : goal.loop-v-preserved
loop-v-preserved c =
    one_zero c.loop-v._v c.loop-v.columns.items c.push.new.self.items c.zero.result c.in_ok-push.ensures.items c.zero.ensures.value c.zero.ensures.count c.loop-v.invariant

pub returns-clause-columns : goal.returns-clause-columns
returns-clause-columns c = c.loop-v.invariant.values

pub returns-clause-counted : goal.returns-clause-counted
returns-clause-counted c = record { columns = c.loop-v.invariant.parts; bound = c.zero-2.ensures.count; small = omega arith }
