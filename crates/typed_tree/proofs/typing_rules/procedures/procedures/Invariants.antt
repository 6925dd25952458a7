use Rattle.std.proofs.Common.{◌≡◌, map, drop}
use Rattle.std.specs.List.{list_all}
use Rattle.typed_tree.specs.TypedView as view
use Rattle.typed_tree.specs.TypingRules.Rules.{procedure_keeps_rules}
use Rattle.typed_tree.proofs.typing_rules.procedures.procedures.Given as goal

abbrev pub invariant-loop-checked : goal.invariant-loop-checked
invariant-loop-checked l =
    list_all (procedure_keeps_rules l.globals (map view.procedure l.procs)) (map view.procedure (drop l.checked-index l.procs))
    ≡ list_all (procedure_keeps_rules l.globals (map view.procedure l.procs)) (map view.procedure l.procs)
