use Rattle.std.proofs.Common.{◌≡◌, drop}
use Rattle.std.specs.List.{list_all}
use Rattle.typed_tree.specs.TypingRules.Rules.{meets}
use Rattle.boogie_types.specs.Ties.Referred.{procedures_by}
use Rattle.boogie_types.specs.Resolved.{implements}
use Rattle.boogie_types.specs.Sorted.{first_named}
use Rattle.boogie_types.proofs.implementations.check_all.Given as goal

abbrev pub invariant-loop-implementation : goal.invariant-loop-implementation
invariant-loop-implementation l = list_all (λ i. meets (implements i) (first_named i.name.text (procedures_by l.procs.procs.items))) (procedures_by (drop l.implementation-index l.implementations)) ≡ list_all (λ i. meets (implements i) (first_named i.name.text (procedures_by l.procs.procs.items))) (procedures_by l.implementations)
