use Rattle.std.proofs.Common.{◌≡◌}
use Rattle.boogie_parse.specs.Rules.GrammarLists.{of_type}
use Rattle.boogie_parse.proofs.grammar.variables.of_type.Given as goal

abbrev pub invariant-loop-name : goal.invariant-loop-name
invariant-loop-name l = l.variables.items ≡ of_type l.ty l.yielded
