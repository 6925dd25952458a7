use Rattle.std.proofs.Common.{List, ap, sym, ◌∙◌}
use Rattle.std.specs.Prelude.{codes}
use Rattle.boogie_tree.specs.Tree.{Declaration}
use Rattle.boogie_tree.specs.View.{program as tree}
use Rattle.boogie_types.specs.Resolved.{are_named, resolved_program}
use Rattle.automizer_top.proofs.BigLaws.{only_memory}
use Rattle.automizer_top.proofs.generated.program_of.Goals as goal

pub resolve-requires : goal.resolve-requires
resolve-requires c = record { named = ap are_named c.in_ok-tree.ensures ∙ (c.generated_programs_are_typed.ensures c.args.count c.requires.0 c.requires.1).0 }

pub want_of_memory-requires : goal.want_of_memory-requires
want_of_memory-requires c =
    only_memory c.resolve.result c.in-Err.fault c.args.count (tree c.in_ok-tree.tree) c.in-Err.is c.in_ok-tree.ensures
    (c.generated_programs_are_typed.ensures c.args.count c.requires.0 c.requires.1) c.resolve.ensures.only

pub returns-in-Ok : goal.returns-in-Ok
returns-in-Ok c = ap (λ (ds : List Declaration). resolved_program ds (codes "main")) (sym c.in_ok-tree.ensures) ∙ c.in-Ok.ensures.ok
