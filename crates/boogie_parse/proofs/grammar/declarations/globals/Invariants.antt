use Rattle.std.proofs.Common.{◌≡◌, map}
use Rattle.boogie_tree.specs.View.{declaration}
use Rattle.boogie_tree.specs.Tree.{Global}
use Rattle.boogie_parse.proofs.grammar.declarations.globals.Given as goal

abbrev pub invariant-loop-variable : goal.invariant-loop-variable
invariant-loop-variable l = map declaration l.declarations.items ≡ map Global l.yielded
