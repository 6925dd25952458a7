use Rattle.std.proofs.Common.{◌∙◌, ◌<◌, length, sym, arith}
use Rattle.std.proofs.lemmas.Bool.{false≢true}
use Rattle.triple_rows.proofs.ListLaws.{something_at}
use Rattle.proof_check.specs.Checks.{IsCovered}
use Rattle.proof_check.proofs.FirstLaws.{first_on, first_found, first_none}
use Rattle.proof_check.proofs.covering.first_uncovered.Goals as goal

pub returns-then-not-is_covered : goal.returns-then-not-is_covered
returns-then-not-is_covered c =
    let l : c.loop-n.n < length c.args.plan.now.nodes = let n = c.node_count-n-end.ensures in let t = c.loop-n-test.true in omega (arith, n, t) in
    let w = something_at c.args.plan.now.nodes c.loop-n.n l in
    first_found (IsCovered c.args.icfg.now c.args.plan.now) c.args.plan.now.nodes c.loop-n.n w.0 c.loop-n.invariant w.1
    (λ p. false≢true (sym c.if-not-is_covered.true ∙ (c.is_covered.ensures w.0 w.1).1 p))

pub loop-n-preserved : goal.loop-n-preserved
loop-n-preserved c =
    let l : c.loop-n.n < length c.args.plan.now.nodes = let n = c.node_count-n-end.ensures in let t = c.loop-n-test.true in omega (arith, n, t) in
    let w = something_at c.args.plan.now.nodes c.loop-n.n l in
    first_on (IsCovered c.args.icfg.now c.args.plan.now) c.args.plan.now.nodes c.loop-n.n w.0 c.loop-n.invariant w.1 ((c.is_covered.ensures w.0 w.1).0 c.if-not-is_covered.false)

pub returns : goal.returns
returns c =
    first_none (IsCovered c.args.icfg.now c.args.plan.now) c.args.plan.now.nodes c.loop-n.n c.loop-n.invariant
    (let n = c.node_count-n-end.ensures in let l = c.loop-n-test.false in omega (arith, n, l))
