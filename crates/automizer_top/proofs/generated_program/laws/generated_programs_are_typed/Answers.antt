use Rattle.automizer_top.proofs.GeneratedProgram.KeptGenerated.{typed_so}
use Rattle.automizer_top.proofs.generated_program.laws.generated_programs_are_typed.Goals as goal

pub returns : goal.returns
returns c = typed_so
