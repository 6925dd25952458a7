use Rattle.boogie_parse.proofs.Spelling.RoundTrip.{printed_again}
use Rattle.boogie_parse.proofs.whole_text.printed_programs_are_read_again.Goals as goal

pub returns : goal.returns
returns c = printed_again
