use Rattle.std.specs.List.{AllByRecursion}
use Rattle.boogie_tree.specs.Tree.{Invariant}
use Rattle.boogie_parse.specs.Rules.GrammarLists.{ReadsInvariants}
use Rattle.boogie_parse.specs.Rules.GrammarLimits.{IsShallow}
use Rattle.boogie_parse.specs.Reading.ListReading.{expression_at}
use Rattle.boogie_parse.proofs.Rules.ListSound.{variables-sound, formals-sound, if_ok-first}
use Rattle.boogie_parse.proofs.Rules.ConditionSound.{invariants-sound, expression_at-sound}
use Rattle.boogie_parse.proofs.grammar.laws.variables_are_read.Goals as goal

pub returns-clause-variables : goal.returns-clause-variables
returns-clause-variables c end n ts = variables-sound end n ts

pub returns-clause-formals : goal.returns-clause-formals
returns-clause-formals c end p n ts = formals-sound end p n ts

pub returns-clause-invariants : goal.returns-clause-invariants
returns-clause-invariants c end p ts =
    if_ok-first (λ x. ReadsInvariants p ts x.value x.rest) (λ x. AllByRecursion (λ (i : Invariant). IsShallow i.cond) x.value) _ (invariants-sound (expression_at end) end (expression_at-sound end) p ts)
