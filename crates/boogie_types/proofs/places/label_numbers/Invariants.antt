use Rattle.std.proofs.Common.{◌≡◌, drop}
use Rattle.boogie_types.specs.Naming.{each}
use Rattle.boogie_types.specs.Ties.Numbers.{number_of_name}
use Rattle.boogie_types.specs.Ties.Making.{made}
use Rattle.boogie_types.proofs.places.label_numbers.Given as goal

abbrev pub invariant-loop-target : goal.invariant-loop-target
invariant-loop-target l = made l.numbers.items (each (λ x. number_of_name l.labels x.text) (drop l.target-index l.targets)) ≡ each (λ x. number_of_name l.labels x.text) l.targets
