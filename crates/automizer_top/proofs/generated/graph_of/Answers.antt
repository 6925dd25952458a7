use Rattle.typed_tree.specs.TypingRules.TypedParts.{typed_program}
use Rattle.text_reports.specs.Answers.{answer_of}
use Rattle.automizer_top.specs.Report.{RefusesLowering}
use Rattle.automizer_top.proofs.BigLaws.{never_refused}
use Rattle.automizer_top.proofs.generated.graph_of.Goals as goal

pub unreachable-requires : goal.unreachable-requires
unreachable-requires c =
    let t = typed_program c.args.program.now in
    let refused : RefusesLowering t (answer_of c.in-Err._answer) = rw c.in-Err.is at c.in_ok-icfg.ensures.graph in
    never_refused t (answer_of c.in-Err._answer) (c.generated_programs_are_lowered.ensures c.args.count c.requires.count.0 c.requires.count.1 t c.requires.program) refused
