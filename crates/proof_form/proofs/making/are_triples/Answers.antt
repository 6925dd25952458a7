use Rattle.proof_form.specs.Lines.{triple, is_triple}
use Rattle.proof_form.proofs.TestLaws.{one_fails, one_passes, all_passed}
use Rattle.proof_form.proofs.making.are_triples.Goals as goal

pub returns-then-not-is_triple : goal.returns-then-not-is_triple
returns-then-not-is_triple c =
    one_fails triple is_triple c.args.triples.now c.loop-triple.triple-index _ c.triple-item.result c.loop-triple-test.true c.triple-item.is c.if-not-is_triple.ensures c.loop-triple.invariant

pub loop-triple-preserved : goal.loop-triple-preserved
loop-triple-preserved c =
    one_passes triple is_triple c.args.triples.now c.loop-triple.triple-index _ c.triple-item.result c.loop-triple-test.true c.triple-item.is c.if-not-is_triple.ensures c.loop-triple.invariant

pub returns : goal.returns
returns c = all_passed triple is_triple c.args.triples.now c.loop-triple.triple-index _ c.loop-triple-test.false c.loop-triple.invariant
