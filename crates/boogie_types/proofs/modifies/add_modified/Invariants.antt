use Rattle.std.proofs.Common.{◌≡◌, drop}
use Rattle.boogie_types.specs.Ties.Modified.{modified_numbers}
use Rattle.boogie_types.specs.Ties.Making.{made}
use Rattle.boogie_types.proofs.modifies.add_modified.Given as goal

abbrev pub invariant-loop-name : goal.invariant-loop-name
invariant-loop-name l = made l.numbers.items (modified_numbers l.declared.globals.now (drop l.name-index l.names)) ≡ made l.fn.numbers.items (modified_numbers l.declared.globals.now l.names)
