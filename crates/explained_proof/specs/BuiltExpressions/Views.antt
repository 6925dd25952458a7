-- The code's conjunctions as contracts see them.
use Rattle.std.specs.Prelude.{Bool, true, false, List, map}
use Rattle.boogie_tree.specs.Tree.{Expression}
use Rattle.boogie_tree.specs.View.{expression}
use Rattle.explained_proof.specs.declared.built_expressions.members.Members.{Members}
use Rattle.explained_proof.specs.BuiltExpressions.Members.{Conjuncts, denied}

abbrev pub seen : Bool → List Expression → Conjuncts
seen true es = denied
seen false es = record { never = false; said = es }

-- a conjunction of the code
abbrev pub conjuncts : Members → Conjuncts
conjuncts m = seen m.never (map expression m.said.items)
