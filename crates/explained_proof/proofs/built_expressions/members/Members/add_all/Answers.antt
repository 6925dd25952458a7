use Rattle.std.proofs.Common.{map, sym, rules}
use Rattle.boogie_tree.specs.View as tree
use Rattle.explained_proof.specs.BuiltExpressions.Views as view
use Rattle.explained_proof.proofs.BuiltExpressions.Conjunctions.{with_none, added_on}
use Rattle.explained_proof.proofs.BuiltExpressions.Owned.{next_all}
use Rattle.explained_proof.proofs.built_expressions.members.Members.add_all.Goals as goal

pub loop-part-init : goal.loop-part-init
loop-part-init c = record {
  value = sym (with_none c.args.self.now.never (map tree.expression c.args.self.now.said.items));
  all = search rules;
}

pub loop-part-preserved : goal.loop-part-preserved
loop-part-preserved c = record {
  value = added_on c.args.self.now c.loop-part.self c.add.new.self c.loop-part.yielded c.in-Some.part c.loop-part.invariant.value c.in_ok-add.ensures;
  all = next_all c.loop-part.yielded c.in-Some.part c.next.new.self.rest.items c.loop-part.part-iterator.rest.items c.args.others.said.items c.in-Some.ensures.steps.0 c.loop-part.invariant.all;
}
