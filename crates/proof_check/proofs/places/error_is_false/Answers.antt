use Rattle.std.proofs.Common.{◌∙◌, ap, eqb}
use Rattle.std.specs.List.{list_any}
use Rattle.nwa_base.proofs.MemberLemmas.{any_number}
use Rattle.proof_check.proofs.places.error_is_false.Goals as goal

pub returns-else-not-is_final : goal.returns-else-not-is_final
returns-else-not-is_final c =
    let test = any_number c.args.one.now.preds.items 1 c.contains.result
    (c.contains.ensures.value ∙ ap (list_any (λ y. eqb y 1)) c.deref.ensures.value) in
    (λ h m. test.0 h, λ h. test.1 (h (c.is_final.ensures.0 c.if-not-is_final.false)))
