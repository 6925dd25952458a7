use Rattle.proof_form.proofs.FormLaws.{second_form_reads}
use Rattle.proof_form.proofs.texts.form_of.Goals as goal

pub returns : goal.returns
returns c = second_form_reads c.args.text.now c.in-Some-behind_line.rest.now c.behind_form.result c.in-Some-behind_line.ensures c.behind_form.ensures
