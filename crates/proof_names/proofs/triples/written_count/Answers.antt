use Rattle.proof_names.proofs.WidthLaws.{written_counted}
use Rattle.proof_names.proofs.triples.written_count.Goals as goal

pub returns : goal.returns
returns c = let v = c.count_variables.ensures.value in let t = c.count_local_targets.ensures.value in let w = written_counted c.args.frame.now c.args.targets.now in cc
