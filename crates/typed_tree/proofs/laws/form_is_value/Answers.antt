use Rattle.typed_tree.proofs.FormValues.{form_has_value}
use Rattle.typed_tree.proofs.laws.form_is_value.Goals as goal

pub returns : goal.returns
returns c = form_has_value
