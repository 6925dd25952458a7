use Rattle.proof_form.specs.Lines.{triple, is_triple}
use Rattle.proof_form.specs.TextReading.{checked_triple_of}
use Rattle.proof_form.proofs.DraftLaws.{kept_as}
use Rattle.proof_form.proofs.drafts.checked_triple.Goals as goal

pub returns : goal.returns
unfolding checked_triple_of
returns c = rw c.in_ok-triple.ensures (kept_as triple is_triple c.kept.result _ _ c.is_triple-holds.ensures c.kept.ensures)
