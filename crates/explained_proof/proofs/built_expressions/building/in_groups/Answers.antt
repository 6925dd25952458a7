use Rattle.std.proofs.Common.{◌≡◌, ◌≢◌, [], map, length, arith, rules}
use Rattle.std.proofs.lemmas.List.{nil_from_length}
use Rattle.boogie_tree.specs.View as view
use Rattle.explained_proof.proofs.BuiltExpressions.Chains.{grows_on, closes, ends_with}
use Rattle.explained_proof.proofs.built_expressions.building.in_groups.Goals as goal

pub loop-part-preserved : goal.loop-part-preserved
loop-part-preserved c =
    let n : length c.push.new.self.items ≢ 16 = λ h. c.if-len-eq-CHAIN.false (omega (arith, h, c.len.ensures, c.push.new.self.ok.0)) in
    grows_on c.args.op (map view.expression c.args.parts.items) c.loop-part.groups.items c.loop-part.group.items c.push.new.self.items c.in-Some.part c.loop-part.part-iterator.rest.items c.next.new.self.rest.items
    c.loop-part.invariant c.in-Some.ensures.steps.0 c.in_ok-push.ensures.items n

pub loop-part-preserved-in-Continue-branch-2 : goal.loop-part-preserved-in-Continue-branch-2
loop-part-preserved-in-Continue-branch-2 c =
    let n : length c.push.new.self.items ≡ 16 = omega (arith, c.if-len-eq-CHAIN.true, c.len.ensures, c.push.new.self.ok.0) in
    closes c.args.op (map view.expression c.args.parts.items) c.loop-part.groups.items c.loop-part.group.items c.push.new.self.items c.in-Some.part c.loop-part.part-iterator.rest.items c.next.new.self.rest.items
    c.close.new.groups.items c.close.new.group.items c.loop-part.invariant c.in-Some.ensures.steps.0 c.in_ok-push.ensures.items n c.in_ok-close.ensures.emptied c.in_ok-close.ensures.closed

pub returns : goal.returns
returns c =
    let none : c.loop-part.part-iterator.rest.items ≡ [] = nil_from_length _ (search rules) in
    ends_with c.args.op (map view.expression c.args.parts.items) c.loop-part.groups.items c.loop-part.group.items c.loop-part.part-iterator.rest.items c.close-2.new.groups.items
    c.loop-part.invariant none c.in_ok-close-2.ensures.closed
