use Rattle.boogie_tree.specs.View.{program as tree}
use Rattle.proof_table.proofs.ParsedNames.{spellable_is_named}
use Rattle.proof_table.proofs.programs.name_resolved.Goals as goal

pub resolve-requires : goal.resolve-requires
resolve-requires c = record { named = spellable_is_named (tree c.args.program) c.requires.spellable }
