use Rattle.std.proofs.Common.{refl, arith}
use Rattle.typed_tree.specs.TypedView.{expression}
use Rattle.icfg_lower.proofs.CallJumps.DemandLemmas.{variables_step}
use Rattle.icfg_lower.proofs.call_jumps.demands.with_variables.Goals as goal

pub loop-made-preserved : goal.loop-made-preserved
loop-made-preserved c = (omega arith, variables_step expression c.args.span c.args.first c.loop-made.made c.in_ok-local.local c.args.exprs.items c.loop-made.all.items c.push.new.self.items _ c.in_ok-local.ensures refl c.in_ok-push.ensures.items c.loop-made.invariant.1)
