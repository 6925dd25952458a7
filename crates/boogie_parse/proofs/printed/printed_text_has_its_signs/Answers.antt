use Rattle.boogie_parse.proofs.Spelling.PrintedPrograms.{program_has_signs}
use Rattle.boogie_parse.proofs.printed.printed_text_has_its_signs.Goals as goal

pub returns : goal.returns
returns c ds h = program_has_signs ds h
