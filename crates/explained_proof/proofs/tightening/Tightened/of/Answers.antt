use Rattle.std.proofs.Common.{◌∙◌, map, ap}
use Rattle.explained_proof.proofs.TightLaws.{formula_tight, tight_spells}
use Rattle.explained_proof.specs.Tightened as spec
use Rattle.explained_proof.proofs.tightening.Tightened.of.Goals as goal

pub invariant_of-result : goal.invariant_of-result
invariant_of-result c = record { spelled = tight_spells c.args.pred.now c.in_ok-nodes.nodes.items c.nodes.ensures.valid (c.in_ok-nodes.ensures ∙ ap (map spec.tight_node) c.nodes.ensures.value) }

pub returns : goal.returns
returns c = formula_tight c.args.pred.now c.in_ok-nodes.nodes.items (c.in_ok-nodes.ensures ∙ ap (map spec.tight_node) c.nodes.ensures.value)
