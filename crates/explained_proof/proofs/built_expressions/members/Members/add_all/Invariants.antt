use Rattle.std.proofs.Common.{◌≡◌, ◌++◌, false, map}
use Rattle.boogie_tree.specs.View as tree
use Rattle.explained_proof.specs.BuiltExpressions.Members as spec
use Rattle.explained_proof.specs.BuiltExpressions.Views as view
use Rattle.explained_proof.proofs.built_expressions.members.Members.add_all.Given as goal

abbrev pub invariant-loop-part : goal.invariant-loop-part
invariant-loop-part l = record {
  value : view.conjuncts l.self ≡ spec.with_members (view.conjuncts l.fn.self) (view.seen false (map tree.expression l.yielded));
  all : l.yielded ++ l.part-iterator.rest.items ≡ l.fn.others.said.items;
}
