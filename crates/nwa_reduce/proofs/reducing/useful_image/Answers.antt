use Rattle.nwa_reduce.proofs.ReduceLemmas.{images_reduce}
use Rattle.nwa_reduce.proofs.reducing.useful_image.Goals as goal

pub returns : goal.returns
returns c = images_reduce c.args.nwa.now _ _ c.image.result c.in_ok-names.ensures.naming c.image.ensures
