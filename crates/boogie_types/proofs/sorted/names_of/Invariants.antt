use Rattle.std.proofs.Common.{◌≡◌, ◌++◌, map, drop}
use Rattle.boogie_types.specs.Ties.Numbers.{named_by}
use Rattle.boogie_types.specs.Ties.Referred.{procedures_by}
use Rattle.boogie_types.proofs.sorted.names_of.Given as goal

abbrev pub invariant-loop-procedure : goal.invariant-loop-procedure
invariant-loop-procedure l = named_by l.names.items ++ map (λ p. p.name) (procedures_by (drop l.procedure-index l.procedures)) ≡ map (λ p. p.name) (procedures_by l.procedures)
