use Rattle.std.proofs.Common.{◌≡◌, ◌++◌}
use Rattle.typed_tree.specs.TypingRules.TypedParts.{typed_program}
use Rattle.icfg_lower.specs.Ties.Owners.{site_owners_from}
use Rattle.icfg_lower.proofs.building.add_all_sites.Given as goal

abbrev pub invariant-loop-proc : goal.invariant-loop-proc
invariant-loop-proc l = l.owners.items ++ site_owners_from (typed_program l.layout) l.proc ≡ l.fn.owners.items ++ site_owners_from (typed_program l.layout) 0
