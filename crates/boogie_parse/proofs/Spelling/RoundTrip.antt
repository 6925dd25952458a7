-- What is printed of a program that a text spells spells that program, apart from places.
use Rattle.std.proofs.Common.{ℕ, List, Result, Ok, Err, IfOk, sym, subst}
use Rattle.boogie_tree.specs.declared.tree.Program.{Program}
use Rattle.boogie_tree.specs.Tree.{Declaration}
use Rattle.boogie_tree.specs.View.{program}
use Rattle.boogie_tree.specs.Printing.{program_text}
use Rattle.boogie_parse.specs.declared.fault.Fault.{Fault}
use Rattle.boogie_parse.specs.Rules.GrammarProgram.{joined_groups}
use Rattle.boogie_parse.specs.Rules.GrammarLimits.{IsProgram}
use Rattle.boogie_parse.specs.Spelling.PrintedTokens.{HasSigns, IsSpellableProgram}
use Rattle.boogie_parse.specs.Spelling.Respelled.{IsProgramAgain}
use Rattle.boogie_parse.proofs.Spelling.SpellableTokens.{lexed_spellable}
use Rattle.boogie_parse.proofs.Spelling.SpellableTrees.{program_of}
use Rattle.boogie_parse.proofs.Spelling.PrintedPrograms.{program_has_signs}
use Rattle.boogie_parse.proofs.Spelling.RespelledLimits.{text-again}

-- the names of a program of a text are names, and its literals are in range
pub program_is_spellable : (text : List ℕ) (ds : List Declaration) → IsProgram text ds → IsSpellableProgram ds
program_is_spellable text ds h = subst IsSpellableProgram (sym h.declarations) (program_of h.spelled (lexed_spellable text h.tokens h.lexical))

pub printed_again : (text : List ℕ) (ds : List Declaration) → IsProgram text ds → IsProgramAgain (program_text ds) ds
printed_again text ds h =
    let s : HasSigns ds = subst HasSigns (sym h.declarations) (program_has_signs (joined_groups h.groups) (program_of h.spelled (lexed_spellable text h.tokens h.lexical))) in
    text-again text (program_text ds) ds s.0 h s.1 s.2

-- the same of what was parsed
pub found_again : (text : List ℕ) (r : Result Program Fault) → IfOk r (λ p. IsProgram text (program p)) →
    IfOk r (λ p. IsProgramAgain (program_text (program p)) (program p))
found_again text (Ok p) h = printed_again text (program p) h
found_again text (Err f) h = tt

pub spellable_program : (text : List ℕ) (r : Result Program Fault) → IfOk r (λ p. IsProgram text (program p)) →
    IfOk r (λ p. IsSpellableProgram (program p))
spellable_program text (Ok p) h = program_is_spellable text (program p) h
spellable_program text (Err f) h = tt
