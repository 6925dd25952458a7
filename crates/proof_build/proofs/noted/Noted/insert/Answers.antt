use Rattle.proof_build.proofs.KeyLaws.{noted_inserted}
use Rattle.proof_build.proofs.noted.Noted.insert.Goals as goal

pub returns : goal.returns
returns c =
    rw (← c.self.view_is)
    (noted_inserted c.self.inside.keys.keys c.insert.new.self.keys c.noted_key.result c.args.listed c.in_ok-is_new.is_new c.noted_key.ensures c.in_ok-is_new.ensures.added c.in_ok-is_new.ensures.keys)
