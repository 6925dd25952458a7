use Rattle.boogie_parse.proofs.Rules.WholeText.{one_program}
use Rattle.boogie_parse.proofs.whole_text.one_program_tree.Goals as goal

pub returns : goal.returns
returns c = one_program
