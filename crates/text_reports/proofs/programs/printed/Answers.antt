use Rattle.boogie_tree.specs.View.{program}
use Rattle.text_reports.proofs.TextLaws.{fault_answered, program_printed}
use Rattle.text_reports.proofs.programs.printed.Goals as goal

pub returns-in_ok-print-in-Ok : goal.returns-in_ok-print-in-Ok
returns-in_ok-print-in-Ok c =
    program_printed c.args.text.now c.in_ok-print-in-Ok.field-0.items (program c.in-Ok.program) c.requires c.in-Ok.ensures.found c.in_ok-print-in-Ok.ensures.text

pub returns-in-Err : goal.returns-in-Err
returns-in-Err c = fault_answered c.args.text.now c.in-Err.fault c.refused.result c.requires c.in-Err.ensures.read c.refused.ensures.answer c.refused.ensures.no_memory
