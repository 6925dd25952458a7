use Rattle.typed_tree.specs.TypingRules.TypedParts.{typed_program}
use Rattle.typed_tree.proofs.TypingRules.ValidLaws as valid
use Rattle.icfg_lower.proofs.program_walk.programs.kept.Goals as goal

pub returns : goal.returns
returns c =
    let numbers = valid.numbers (typed_program c.args.layout.now) c.program-program.ensures.valid in
    record { entry = valid.entry (typed_program c.args.layout.now) c.program-program.ensures.valid; procedures = numbers.1 }
