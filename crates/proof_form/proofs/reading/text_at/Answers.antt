use Rattle.proof_form.proofs.AfterLaws.{stripped}
use Rattle.proof_form.proofs.reading.text_at.Goals as goal

pub returns : goal.returns
returns c = stripped c.args.text.now c.args.bytes.now c.strip_prefix.result c.strip_prefix.ensures.cases
