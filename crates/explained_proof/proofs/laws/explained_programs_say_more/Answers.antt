use Rattle.explained_proof.proofs.MoreLaws.{explained_more}
use Rattle.explained_proof.proofs.laws.explained_programs_say_more.Goals as goal

pub returns : goal.returns
returns c = explained_more
