use Rattle.std.proofs.Common.{refl, List, subst}
use Rattle.std.specs.Prelude.{ℕ}
use Rattle.std.proofs.lemmas.Result.{IfOk-weaker}
use Rattle.nwa_base.specs.Members.{SameMembers}
use Rattle.triple_rows.specs.declared.triples.Scoped.{Scoped}
use Rattle.proof_reuse.specs.Ties.Choices.{call_listed, call_pair_choices}
use Rattle.proof_reuse.proofs.PickLaws.{mapped_same}
use Rattle.proof_reuse.proofs.picking.call_choices.Goals as goal

pub returns : goal.returns
returns c = IfOk-weaker c.calls.result _ _ (λ v e.
    mapped_same (call_listed c.args.letter) v.items c.as_slice.result.now c.in_ok-choices.choices.keys (call_pair_choices c.args.earlier.now.preds.items c.args.earlier.now.calls.keys c.args.caller c.args.callee) _
    e c.as_slice.ensures.keys
    (subst (λ (ps : List Scoped). SameMembers c.in_ok-choices.choices.keys (call_pair_choices ps c.args.earlier.now.calls.keys c.args.caller c.args.callee)) c.deref.ensures.value
    (subst (λ (pairs : List (ℕ × ℕ)). SameMembers c.in_ok-choices.choices.keys (call_pair_choices c.deref.result.now pairs c.args.caller c.args.callee)) c.as_slice-pairs.ensures.keys
    c.in_ok-choices.ensures)) refl) c.calls.ensures
