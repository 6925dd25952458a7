use Rattle.nwa_difference.proofs.CoverLemmas.{no_covers}
use Rattle.nwa_difference.proofs.covering.covers.Goals as goal

pub returns : goal.returns
returns c = no_covers c.args.first.now c.args.second.now c.new.result.items c.new.ensures.items
