use Rattle.std.proofs.Common.{List, subst}
use Rattle.std.proofs.lemmas.Result.{IfOk-weaker}
use Rattle.triple_rows.specs.declared.triples.Scoped.{Scoped}
use Rattle.proof_names.specs.declared.outlines.Listed.{Listed}
use Rattle.proof_reuse.specs.Ties.Choices.{ArePicked}
use Rattle.proof_reuse.specs.Ties.Views.{taken}
use Rattle.proof_reuse.proofs.PickLaws.{picked_agree}
use Rattle.proof_reuse.proofs.ReuseLaws.{picked_candidates}
use Rattle.proof_reuse.proofs.picking.candidates_by.Goals as goal

pub returns-clause-agree : goal.returns-clause-agree
returns-clause-agree c = IfOk-weaker c.all_picked.result _ _ (λ v k. picked_agree c.args.icfg.now c.deref.result.now c.deref-2.result.now v.items k) c.all_picked.ensures

pub returns-clause-candidates : goal.returns-clause-candidates
returns-clause-candidates c = IfOk-weaker c.all_picked.result _ _ (λ v k old t.
    picked_candidates c.args.icfg.now old (taken c.args.earlier.now) t c.args.letter c.in_ok-listed.listed.items v.items c.in_ok-listed.ensures
    (subst (λ (ps : List Scoped). ArePicked c.args.icfg.now ps c.in_ok-listed.listed.items v.items) c.deref.ensures.value
    (subst (λ (ls : List Listed). ArePicked c.args.icfg.now c.deref.result.now ls v.items) c.deref-2.ensures.value k))) c.all_picked.ensures
