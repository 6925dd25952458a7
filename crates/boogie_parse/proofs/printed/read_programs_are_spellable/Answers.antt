use Rattle.std.proofs.Common.{sym, subst}
use Rattle.boogie_parse.specs.Spelling.PrintedTokens.{HasSigns}
use Rattle.boogie_parse.specs.Rules.GrammarProgram.{joined_groups}
use Rattle.boogie_parse.proofs.Spelling.SpellableTokens.{lexed_spellable}
use Rattle.boogie_parse.proofs.Spelling.SpellableTrees.{program_of}
use Rattle.boogie_parse.proofs.Spelling.PrintedPrograms.{program_has_signs}
use Rattle.boogie_parse.proofs.printed.read_programs_are_spellable.Goals as goal

pub returns-clause-spellable : goal.returns-clause-spellable
returns-clause-spellable c text groups h = program_of h.spelled (lexed_spellable text h.tokens h.lexical)

pub returns-clause-printed : goal.returns-clause-printed
returns-clause-printed c text program h =
    subst HasSigns (sym h.declarations) (program_has_signs (joined_groups h.groups) (program_of h.spelled (lexed_spellable text h.tokens h.lexical)))
