use Rattle.std.proofs.Common.{◌≡◌, [], rules}
use Rattle.std.proofs.lemmas.List.{nil_from_length}
use Rattle.boogie_tree.specs.View as tree
use Rattle.explained_proof.specs.Explained as spec
use Rattle.explained_proof.specs.Ties.Views as view
use Rattle.explained_proof.proofs.TakenLaws.{taken_on, taken_all}
use Rattle.explained_proof.proofs.programs.declarations.Goals as goal

pub loop-each-preserved : goal.loop-each-preserved
loop-each-preserved c =
    taken_on tree.declaration (spec.explained_declaration (view.told c.args.telling.now)) tree.declaration c.loop-each.out.items c.push.new.self.items _ c.in-Some.each c.next.new.self.rest.items
    c.loop-each.each-iterator.rest.items _ c.in-Some.ensures.steps.0 c.in_ok-push.ensures.items c.in_ok-declaration.ensures c.loop-each.invariant

pub returns : goal.returns
returns c =
    let none : c.loop-each.each-iterator.rest.items ≡ [] = nil_from_length _ (search rules) in
    taken_all tree.declaration (spec.explained_declaration (view.told c.args.telling.now)) tree.declaration c.loop-each.out.items c.loop-each.each-iterator.rest.items _ none c.loop-each.invariant
