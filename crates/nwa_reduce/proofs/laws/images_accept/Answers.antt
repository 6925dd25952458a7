use Rattle.nwa_reduce.proofs.ImageLemmas.{image_accepts}
use Rattle.nwa_reduce.proofs.laws.images_accept.Goals as goal

pub returns : goal.returns
returns c = image_accepts
