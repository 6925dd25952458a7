use Rattle.std.proofs.Common.{arith}
use Rattle.nested_itp.proofs.NestedPredicates.BaseLaws.{below_next}
use Rattle.nested_itp.proofs.nested_predicates.versions.width_with.Goals as goal

pub loop-i-preserved : goal.loop-i-preserved
loop-i-preserved c =
    let m = c.max-width.ensures in
    record {
      least = (let l = c.loop-i.invariant.least in omega (arith, l, m));
      versions = below_next c.args.state.now c.loop-i.i c.loop-i.width _ c.loop-i-test.true c.loop-i.invariant.versions (omega (arith, m)) (omega (arith, m));
    }
