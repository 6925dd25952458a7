use Rattle.proof_build.proofs.KeyLaws.{noted_there}
use Rattle.proof_build.proofs.noted.Noted.contains.Goals as goal

pub returns : goal.returns
returns c = rw (← c.self.view_is) (noted_there c.self.inside.keys.keys c.noted_key.result c.args.listed c.contains.result c.noted_key.ensures c.contains.ensures)
