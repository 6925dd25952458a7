use Rattle.std.proofs.Common.{◌≡◌, ◌∙◌, ◌+◌, ◌-◌, ◌<◌, ◌≤◌, ◌^◌, length, drop, ap, rules, arith}
use Rattle.explained_proof.specs.FactExpressions.Trees as spec
use Rattle.explained_proof.proofs.FactExpressions.TreeLaws.{length_step, length_zero, length_end}
use Rattle.explained_proof.proofs.fact_expressions.splitting.first_length.Goals as goal

pub returns-then-open-eq0-clause-value : goal.returns-then-open-eq0-clause-value
returns-then-open-eq0-clause-value c =
    let ns = c.args.nodes.now in
    let n = c.loop-number.number in
    let o = c.loop-number.open in
    let x = c.index-nodes-number.result in
    let s = length_step ns n o x c.loop-number-test.true c.index-nodes-number.is c.loop-number.invariant.some in
    let z : spec.part_count x + (o - 1) ≡ 0 = omega (arith, c.if-open-eq0.true, c.from.ensures, c.part_count.ensures) in
    let e : spec.tree_length (spec.part_count x + (o - 1)) (drop (n + 1) ns) ≡ 0 = ap (λ m. spec.tree_length m (drop (n + 1) ns)) z ∙ length_zero (drop (n + 1) ns) in
    omega (arith, s, e, c.loop-number.invariant.value)

pub loop-number-preserved : goal.loop-number-preserved
loop-number-preserved c =
    let ns = c.args.nodes.now in
    let n = c.loop-number.number in
    let o = c.loop-number.open in
    let x = c.index-nodes-number.result in
    let s = length_step ns n o x c.loop-number-test.true c.index-nodes-number.is c.loop-number.invariant.some in
    let q : o - 1 + c.from.result ≡ spec.part_count x + (o - 1) = omega (arith, c.from.ensures, c.part_count.ensures) in
    let e = ap (λ m. spec.tree_length m (drop (n + 1) ns)) q in
    let r : c.part_count.result < 2 ^ 32 = search rules in
    record {
      some = omega (arith, c.if-open-eq0.false);
      bounded = omega (arith, c.loop-number.invariant.bounded, c.from.ensures, r);
      value = omega (arith, s, e, c.loop-number.invariant.value);
    }

pub returns-clause-value : goal.returns-clause-value
returns-clause-value c =
    let l : length c.args.nodes.now ≤ c.loop-number.number = omega arith in
    let e = length_end c.args.nodes.now c.loop-number.number c.loop-number.open l in
    omega (arith, e, l, c.loop-number.invariant.value, c.loop-number.auto.number-end)
