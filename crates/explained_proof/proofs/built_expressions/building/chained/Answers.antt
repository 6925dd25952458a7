use Rattle.std.proofs.Common.{◌≡◌, ◌<◌, ◌≤◌, IfOk, map, length, subst, arith}
use Rattle.std.specs.Option.{option_map}
use Rattle.boogie_tree.specs.View as view
use Rattle.explained_proof.proofs.BuiltExpressions.Chains.{fewer_made, chain_made, chain_told}
use Rattle.explained_proof.proofs.built_expressions.building.chained.Goals as goal

pub loop-parts-smaller : goal.loop-parts-smaller
loop-parts-smaller c =
    let n : 16 < length c.loop-parts.parts.items = omega (arith, c.loop-parts-test.true, c.len.ensures, c.loop-parts.parts.ok.0) in
    fewer_made c.args.op c.loop-parts.parts.items c.in_ok-parts.parts.items c.in_ok-parts.ensures n

pub loop-parts-preserved : goal.loop-parts-preserved
loop-parts-preserved c =
    let n : 16 < length c.loop-parts.parts.items = omega (arith, c.loop-parts-test.true, c.len.ensures, c.loop-parts.parts.ok.0) in
    chain_made c.args.op (map view.expression c.args.parts.items) c.loop-parts.parts.items c.in_ok-parts.parts.items c.loop-parts.invariant c.in_ok-parts.ensures n

pub returns : goal.returns
returns c =
    let n : length c.loop-parts.parts.items ≤ 16 = omega (arith, c.loop-parts-test.false, c.len.ensures, c.loop-parts.parts.ok.0) in
    subst (λ v. IfOk c.in_a_row.result (λ o. option_map view.expression o ≡ v))
    (chain_told c.args.op (map view.expression c.args.parts.items) c.loop-parts.parts.items c.loop-parts.invariant n) c.in_a_row.ensures
