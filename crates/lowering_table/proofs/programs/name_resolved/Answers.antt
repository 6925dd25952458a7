use Rattle.boogie_tree.specs.View.{program as tree}
use Rattle.lowering_table.proofs.ParsedNames.{spellable_is_named}
use Rattle.lowering_table.proofs.programs.name_resolved.Goals as goal

pub resolve-requires : goal.resolve-requires
resolve-requires c = record { named = spellable_is_named (tree c.args.program) c.requires.spellable }
