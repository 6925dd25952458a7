use Rattle.std.proofs.Common.{◌≡◌, ◌++◌}
use Rattle.typed_tree.specs.TypingRules.TypedParts.{typed_program}
use Rattle.icfg_lower.specs.Ties.Owners.{owners_from}
use Rattle.icfg_lower.proofs.building.add_all_places.Given as goal

abbrev pub invariant-loop-proc : goal.invariant-loop-proc
invariant-loop-proc l = l.owners.items ++ owners_from (typed_program l.layout) l.proc ≡ l.fn.owners.items ++ owners_from (typed_program l.layout) 0
