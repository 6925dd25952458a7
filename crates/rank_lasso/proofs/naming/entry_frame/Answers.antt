use Rattle.std.proofs.Common.{sym, subst}
use Rattle.letter_acts.specs.Frames.{Columns}
use Rattle.proof_names.specs.ProofSpell.Nodes.{IsReadable}
use Rattle.proof_names.proofs.ProofSpell.NameLaws.{readable}
use Rattle.rank_lasso.proofs.naming.entry_frame.Goals as goal

pub returns-clause-readable : goal.returns-clause-readable
returns-clause-readable c = subst (λ (f : Columns). IsReadable f) (sym c.columns.ensures.value) (readable c.args.icfg.now c.unwrap_or.result c.columns.ensures.valid)
