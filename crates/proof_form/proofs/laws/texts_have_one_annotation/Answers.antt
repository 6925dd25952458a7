use Rattle.proof_form.proofs.OneLaws.{one_annotation}
use Rattle.proof_form.proofs.laws.texts_have_one_annotation.Goals as goal

pub returns : goal.returns
returns c = one_annotation
