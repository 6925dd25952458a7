use Rattle.std.proofs.Common.{◌≡◌, map, take}
use Rattle.proof_form.specs.Lines as form
use Rattle.proof_names.specs.Predicates.{pred_named}
use Rattle.explained_proof.specs.Known as spec
use Rattle.explained_proof.specs.Ties.Views as view
use Rattle.explained_proof.proofs.knowledge.predicates_of.Given as goal

abbrev pub invariant-loop-line : goal.invariant-loop-line
invariant-loop-line l = map view.tightened l.list.items ≡ map (λ line. spec.formula_in (pred_named l.icfg (form.pred line))) (take l.line-index l.lines)
