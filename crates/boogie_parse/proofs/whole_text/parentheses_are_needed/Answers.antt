use Rattle.boogie_parse.proofs.Spelling.FewestPrograms.{parentheses_are_needed}
use Rattle.boogie_parse.proofs.whole_text.parentheses_are_needed.Goals as goal

pub returns : goal.returns
returns c = parentheses_are_needed
