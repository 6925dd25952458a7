use Rattle.std.proofs.Common.{◌∙◌, leb-true, ap, sym}
use Rattle.lin_rows.specs.Tightening.{content}
use Rattle.lin_rows.proofs.TighteningLemmas.{tightened_stays}
use Rattle.lin_rows.proofs.tightening.is_tight.Goals as goal

pub returns-clause-same : goal.returns-clause-same
returns-clause-same c = λ t.
    tightened_stays c.args.row.now
    (rw (ap content (sym c.terms.ensures.value) ∙ sym c.content.ensures) (leb-true c.content.result 1 t))
