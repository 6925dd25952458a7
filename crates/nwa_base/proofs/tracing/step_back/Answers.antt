use Rattle.std.proofs.Common.{◌∙◌, ◌∷◌, [], reverse, ap}
use Rattle.std.proofs.lemmas.List.{reverse-append}
use Rattle.nwa_base.proofs.TracingLemmas.{inside_ready, inside_back, call_ready, call_back, back_ready, back_back}
use Rattle.nwa_base.proofs.tracing.step_back.Goals as goal

pub state_before_inside-requires : goal.state_before_inside-requires
state_before_inside-requires c = rw c.as_slice.ensures.value (inside_ready _ _ c.in-Inside.before _ _ _ (rw c.in-Inside.is at c.requires))

pub returns-in-Inside : goal.returns-in-Inside
returns-in-Inside c =
    let h = rw c.as_slice.ensures.value at c.state_before_inside.ensures in
    rw c.in-Inside.is (inside_back _ _ _ _ _ _ _ (rw c.in-Inside.is at c.requires) h.0 h.1)

pub key_before_call-requires : goal.key_before_call-requires
key_before_call-requires c = call_ready _ _ _ _ _ (rw c.in-Call.is at c.requires)

pub returns-in-Call : goal.returns-in-Call
returns-in-Call c = rw c.in-Call.is (call_back _ _ _ _ _ _ _ _ (rw c.in-Call.is at c.requires) c.key_before_call.ensures)

pub pair_before_back-requires : goal.pair_before_back-requires
pair_before_back-requires c =
    rw (c.as_slice-in-Back.ensures.value, c.as_slice-in-Back-2.ensures.value)
    (back_ready _ _ c.in-Back.outer c.in-Back.before _ _ _ (rw c.in-Back.is at c.requires))

pub returns-in_ok-push-in-Back : goal.returns-in_ok-push-in-Back
returns-in_ok-push-in-Back c =
    let h = rw (c.as_slice-in-Back.ensures.value, c.as_slice-in-Back-2.ensures.value) at c.pair_before_back.ensures in
    let e = ap reverse c.in_ok-push-in-Back.ensures.items ∙ reverse-append c.args.keys.now.items (c.args.here.0 ∷ []) in
    rw c.in-Back.is (back_back _ _ _ _ _ _ _ _ _ (rw c.in-Back.is at c.requires) h.0 h.1 h.2 e)
