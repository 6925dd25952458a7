use Rattle.path_rows.proofs.LoopLemmas.{repeated_next}
use Rattle.path_rows.proofs.times.add_times.Goals as goal

pub loop-i-preserved : goal.loop-i-preserved
loop-i-preserved g c = repeated_next c.args.number c.loop-i._i c.args.numbers.now.items c.loop-i.numbers.items c.push.new.self.items c.loop-i.invariant c.in_ok-push.ensures.items
