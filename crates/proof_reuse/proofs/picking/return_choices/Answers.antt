use Rattle.std.proofs.Common.{◌∙◌, List, [], sym, subst}
use Rattle.std.specs.Prelude.{ℕ, slice_get}
use Rattle.std.proofs.lemmas.Result.{IfOk-weaker}
use Rattle.nwa_base.specs.Members.{SameMembers}
use Rattle.triple_rows.specs.declared.triples.Scoped.{Scoped}
use Rattle.proof_reuse.specs.Ties.Choices.{back_listed, three_choices, return_choices}
use Rattle.proof_reuse.specs.Ties.Views.{taken}
use Rattle.proof_reuse.proofs.SetLaws.{same_none, same_along}
use Rattle.proof_reuse.proofs.PickLaws.{mapped_same, none_returned, all_returned}
use Rattle.proof_reuse.proofs.picking.return_choices.Goals as goal

pub returns-in_default : goal.returns-in_default
returns-in_default c =
    same_along c.new.result.items [] (return_choices (taken c.args.earlier.now) c.args.letter (slice_get c.args.icfg.now.acts c.args.call))
    (sym (none_returned (taken c.args.earlier.now) c.args.letter (slice_get c.args.icfg.now.acts c.args.call) (sym c.call_scopes.ensures ∙ c.in_default.is)))
    (same_none c.new.result.items c.new.ensures.items)

pub returns : goal.returns
returns c = IfOk-weaker c.backs.result _ _ (λ v e.
    mapped_same (back_listed c.args.letter) v.items c.as_slice.result.now c.in_ok-choices.choices.keys
    (three_choices c.args.earlier.now.preds.items c.args.earlier.now.backs.keys c.in-Some.scopes.1 c.in-Some.scopes.0) _ e c.as_slice.ensures.keys
    (subst (λ (ps : List Scoped). SameMembers c.in_ok-choices.choices.keys (three_choices ps c.args.earlier.now.backs.keys c.in-Some.scopes.1 c.in-Some.scopes.0)) c.deref.ensures.value
    (subst (λ (threes : List (ℕ × ℕ × ℕ)). SameMembers c.in_ok-choices.choices.keys (three_choices c.deref.result.now threes c.in-Some.scopes.1 c.in-Some.scopes.0))
    c.as_slice-threes.ensures.keys c.in_ok-choices.ensures))
    (sym (all_returned (taken c.args.earlier.now) c.args.letter (slice_get c.args.icfg.now.acts c.args.call) c.in-Some.scopes (sym c.call_scopes.ensures ∙ c.in-Some.is)))) c.backs.ensures
