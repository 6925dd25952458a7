use Rattle.boogie_tree.specs.View.{program as tree}
use Rattle.text_reports.specs.ReportCases.{no_program, refused_text, ill_typed}
use Rattle.text_reports.proofs.ParsedNames.{spellable_is_named}
use Rattle.text_reports.proofs.programs.typed.Goals as goal

pub returns-in-Err-clause-typed : goal.returns-in-Err-clause-typed
returns-in-Err-clause-typed c =
    refused_text (no_program c.in-Err.fault c.requires (c.in-Err.ensures.read c.in_ok-refused-in-Err.ensures.no_memory) c.in_ok-refused-in-Err.ensures.answer)

pub resolve-requires : goal.resolve-requires
resolve-requires c = record { named = spellable_is_named (tree c.in-Ok.program) c.in-Ok.ensures.spellable }

pub returns-in_ok-ill_typed-in-Err-resolve-clause-typed : goal.returns-in_ok-ill_typed-in-Err-resolve-clause-typed
returns-in_ok-ill_typed-in-Err-resolve-clause-typed c =
    ill_typed (tree c.in-Ok.program) c.in-Err-resolve.fault c.requires c.in-Ok.ensures.found
    (c.in-Err-resolve.ensures.fault, c.in_ok-ill_typed-in-Err-resolve.ensures.no_memory) c.in_ok-ill_typed-in-Err-resolve.ensures.answer
