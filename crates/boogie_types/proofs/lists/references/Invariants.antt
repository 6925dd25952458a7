use Rattle.std.proofs.Common.{◌≡◌, ◌++◌, drop}
use Rattle.boogie_types.specs.Ties.Numbers.{named_by}
use Rattle.boogie_types.proofs.lists.references.Given as goal

abbrev pub invariant-loop-name : goal.invariant-loop-name
invariant-loop-name l = named_by l.references.items ++ drop l.name-index l.names ≡ l.names
