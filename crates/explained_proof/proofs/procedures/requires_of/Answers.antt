use Rattle.std.proofs.Common.{◌≡◌, [], rules, ap}
use Rattle.std.proofs.lemmas.List.{nil_from_length}
use Rattle.boogie_tree.specs.Tree as plain
use Rattle.boogie_tree.specs.Tree.{Expression}
use Rattle.boogie_tree.specs.View as tree
use Rattle.explained_proof.specs.Statements.{condition}
use Rattle.explained_proof.proofs.TakenLaws.{taken_on, taken_all}
use Rattle.explained_proof.proofs.procedures.requires_of.Goals as goal

pub loop-clause-preserved : goal.loop-clause-preserved
loop-clause-preserved c =
    taken_on tree.specification (λ (e : Expression). plain.Requires (condition e)) tree.expression c.loop-clause.list.items c.push.new.self.items _ c.in-Some.clause c.next.new.self.rest.items c.loop-clause.clause-iterator.rest.items _
    c.in-Some.ensures.steps.0 c.in_ok-push.ensures.items (ap plain.Requires c.condition.ensures) c.loop-clause.invariant

pub returns : goal.returns
returns c =
    let none : c.loop-clause.clause-iterator.rest.items ≡ [] = nil_from_length _ (search rules) in
    taken_all tree.specification (λ (e : Expression). plain.Requires (condition e)) tree.expression c.loop-clause.list.items c.loop-clause.clause-iterator.rest.items _ none c.loop-clause.invariant
