use Rattle.explain_top.proofs.TraceStory.WorthLaws.{letters_told}
use Rattle.explain_top.proofs.trace_story.laws.letters_are_their_numbers.Goals as goal

pub returns : goal.returns
returns c = letters_told
