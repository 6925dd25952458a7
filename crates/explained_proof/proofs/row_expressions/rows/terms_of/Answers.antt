use Rattle.explained_proof.specs.RowExpressions.Views as view
use Rattle.explained_proof.proofs.RowExpressions.CaseLaws.{terms_next, valid_next}
use Rattle.explained_proof.proofs.row_expressions.rows.terms_of.Goals as goal

pub loop-term-preserved : goal.loop-term-preserved
loop-term-preserved c = record {
  value = terms_next (view.scope c.args.scope.now) c.args.truths c.args.terms.now c.loop-term.term-index c.is_kind.result c.loop-term.list.items c.push_if.new.list.items
      c.loop-term-test.true c.loop-term.invariant.value c.is_kind.ensures c.in_ok-push_if.ensures;
  valid = valid_next c.args.terms.now c.loop-term.list.items c.push_if.new.list.items c.loop-term.term-index c.is_kind.result c.loop-term-test.true c.requires c.loop-term.invariant.valid c.in_ok-push_if.ensures;
}
