use Rattle.typed_tree.specs.TypingRules.TypedParts.{program_of}
use Rattle.typed_tree.proofs.TypingRules.Answered.{kept_of, fault_of, only_of}
use Rattle.typed_tree.proofs.typing_rules.procedures.check_typing.Goals as goal

pub returns : goal.returns
returns c = record {
  kept = kept_of c.program.result (program_of c.args.globals.now c.args.axioms.now c.args.procs.now) c.program.ensures;
  fault = fault_of c.program.result (program_of c.args.globals.now c.args.axioms.now c.args.procs.now) c.program.ensures;
  only = only_of c.program.result (program_of c.args.globals.now c.args.axioms.now c.args.procs.now) c.program.ensures;
}
