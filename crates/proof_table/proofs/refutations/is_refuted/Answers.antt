use Rattle.proof_table.proofs.RowsRefuted.{rows_refuted}
use Rattle.proof_table.proofs.refutations.is_refuted.Goals as goal

pub returns : goal.returns
returns c = rows_refuted c.system.result.now c.args.path.now.rows c.args.proof.now c.check.result c.system.ensures.rows c.system.ensures.groups c.check.ensures.exact
