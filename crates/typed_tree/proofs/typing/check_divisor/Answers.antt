use Rattle.std.proofs.Common.{ap, Some, ◌∙◌}
use Rattle.typed_tree.proofs.Divisors.{zero_fault, no_literal_fault}
use Rattle.typed_tree.proofs.typing.check_divisor.Goals as goal

pub returns-in-None-clause-fault : goal.returns-in-None-clause-fault
returns-in-None-clause-fault c = no_literal_fault c.args.divisor.now _ c.zero_literal.ensures c.in-None.is

pub returns-in-Some-true-clause-fault : goal.returns-in-Some-true-clause-fault
returns-in-Some-true-clause-fault c = zero_fault c.args.divisor.now _ c.zero_literal.ensures (c.in-Some-true.is ∙ ap Some c.in-Some-true.field-0-test)
