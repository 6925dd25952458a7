use Rattle.std.proofs.Common.{◌≡◌, ◌-◌, map, take}
use Rattle.boogie_tree.specs.View.{declaration}
use Rattle.boogie_parse.specs.Rules.GrammarLimits.{procedures_counted}
use Rattle.boogie_parse.proofs.grammar.programs.room_behind.Given as goal

abbrev pub invariant-loop-declaration : goal.invariant-loop-declaration
invariant-loop-declaration l = l.room ≡ l.most - procedures_counted (map declaration (take l.declaration-index l.declarations))
