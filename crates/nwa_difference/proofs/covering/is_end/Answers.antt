use Rattle.std.proofs.Common.{◌∙◌, sym}
use Rattle.nwa_difference.proofs.CoverLemmas.{is_end}
use Rattle.nwa_difference.proofs.covering.is_end.Goals as goal

pub returns : goal.returns
returns c = λ yes.
    is_end c.args.nwa.now c.args.state c.insides_leaving.result.now c.calls_leaving.result.now c.backs_leaving.result.now c.insides_leaving.ensures
    c.calls_leaving.ensures c.backs_leaving.ensures (sym c.is_empty.ensures ∙ c.if-not-is_empty.false) (sym c.is_empty-2.ensures ∙ c.if-not-is_empty-2.false)
    (sym c.is_empty-3.ensures ∙ yes)
