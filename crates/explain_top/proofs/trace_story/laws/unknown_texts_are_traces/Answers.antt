use Rattle.explain_top.proofs.TraceStory.WorthLaws.{unknown_is}
use Rattle.explain_top.proofs.trace_story.laws.unknown_texts_are_traces.Goals as goal

pub returns : goal.returns
returns c = unknown_is
