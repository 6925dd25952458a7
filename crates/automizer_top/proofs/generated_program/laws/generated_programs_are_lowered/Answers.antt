use Rattle.automizer_top.proofs.GeneratedProgram.LoweredGenerated.{lowered_so}
use Rattle.automizer_top.proofs.generated_program.laws.generated_programs_are_lowered.Goals as goal

pub returns : goal.returns
returns c = lowered_so
