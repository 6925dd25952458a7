use Rattle.std.proofs.Common.{◌≡◌, map, drop}
use Rattle.std.specs.List.{list_all}
use Rattle.typed_tree.specs.TypedView as view
use Rattle.typed_tree.specs.TypingRules.Shape.{is_procedure_shaped}
use Rattle.typed_tree.proofs.typing_rules.shape.procedures_shaped.Given as goal

abbrev pub invariant-loop-shaped : goal.invariant-loop-shaped
invariant-loop-shaped l =
    list_all (is_procedure_shaped l.globals (map view.procedure l.procs)) (map view.procedure (drop l.shaped-index l.procs))
    ≡ list_all (is_procedure_shaped l.globals (map view.procedure l.procs)) (map view.procedure l.procs)
