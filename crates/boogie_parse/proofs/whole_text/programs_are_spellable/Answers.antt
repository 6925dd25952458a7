use Rattle.boogie_parse.proofs.Spelling.RoundTrip.{program_is_spellable}
use Rattle.boogie_parse.proofs.whole_text.programs_are_spellable.Goals as goal

pub returns : goal.returns
returns c = program_is_spellable
