use Rattle.std.proofs.Common.{pos, get_or, arith, rules, FitsSigned}
use Rattle.std.specs.Int.{w128}
use Rattle.std.proofs.lemmas.Int.{to_z-of_z}
use Rattle.boogie_run.proofs.WriteSteps.{put_more}
use Rattle.boogie_run.proofs.writing.put_all.Goals as goal

pub loop-i-preserved : goal.loop-i-preserved
loop-i-preserved c =
    let g : FitsSigned w128 (get_or c.args.news.now c.loop-i.i (pos 0)) = search rules in
    put_more c.loop-i.values.items c.put.new.values.items c.args.numbers.now c.args.news.now c.loop-i.i 0 (pos 0) _ (omega arith) (omega arith)
    (simp to_z-of_z at c.put.ensures) c.loop-i.invariant
