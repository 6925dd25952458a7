use Rattle.std.proofs.Common.{arith}
use Rattle.icfg_lower.proofs.CallJumps.ResultLemmas.{products_step}
use Rattle.icfg_lower.proofs.call_jumps.ensured.with_products.Goals as goal

pub loop-made-preserved : goal.loop-made-preserved
loop-made-preserved c = (
  omega arith,
  products_step c.args.first c.loop-made.made c.in_ok-number.number c.args.locals.items c.loop-made.all.items c.push.new.self.items c.numbered.result c.in_ok-number.ensures c.numbered.ensures
      c.in_ok-push.ensures.items c.loop-made.invariant.1,
)
