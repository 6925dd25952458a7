use Rattle.proof_form.specs.Predicates.{plain_predicate_node}
use Rattle.proof_names.proofs.AllLaws.{Found}
use Rattle.proof_reuse.specs.Found.{node_found}
use Rattle.proof_reuse.proofs.finding.nodes_found.Given as goal

abbrev pub invariant-loop-spelled : goal.invariant-loop-spelled
invariant-loop-spelled l = Found (λ n. node_found l.frame (plain_predicate_node n)) l.nodes l.spelled-index l.found.items
