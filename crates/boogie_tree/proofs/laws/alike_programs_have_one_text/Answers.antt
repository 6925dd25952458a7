use Rattle.boogie_tree.proofs.Bare.{alike_texts}
use Rattle.boogie_tree.proofs.laws.alike_programs_have_one_text.Goals as goal

pub returns : goal.returns
returns c = alike_texts
