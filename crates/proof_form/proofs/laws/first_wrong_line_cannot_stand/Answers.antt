use Rattle.proof_form.proofs.BeginningLaws.{wrong_stands_only}
use Rattle.proof_form.proofs.laws.first_wrong_line_cannot_stand.Goals as goal

pub returns : goal.returns
returns c = wrong_stands_only
