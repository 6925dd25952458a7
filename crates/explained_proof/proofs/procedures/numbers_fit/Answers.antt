use Rattle.std.proofs.Common.{◌<◌, ◌^◌, subst}
use Rattle.std.proofs.lemmas.List.{length-map}
use Rattle.typed_tree.specs.TypedView as typed
use Rattle.typed_tree.specs.TypingRules.TypedParts.{typed_program}
use Rattle.explained_proof.proofs.procedures.numbers_fit.Goals as goal

pub returns-clause-places : goal.returns-clause-places
returns-clause-places c = (c.typed_programs_are_typed.ensures.numbers (typed_program c.args.program.now) c.globals-globals.ensures.valid).0

pub returns-clause-procedures : goal.returns-clause-procedures
returns-clause-procedures c =
    subst (λ n. n < 2 ^ 32) (length-map c.args.program.now.procs typed.procedure) (c.typed_programs_are_typed.ensures.numbers (typed_program c.args.program.now) c.globals-globals.ensures.valid).1
