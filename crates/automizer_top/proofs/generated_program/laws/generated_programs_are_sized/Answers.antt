use Rattle.automizer_top.proofs.GeneratedProgram.SizedGenerated.{sized_so}
use Rattle.automizer_top.proofs.generated_program.laws.generated_programs_are_sized.Goals as goal

pub returns : goal.returns
returns c = sized_so
