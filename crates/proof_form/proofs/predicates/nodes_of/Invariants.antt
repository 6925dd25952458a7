use Rattle.std.proofs.Common.{map, vec_len}
use Rattle.proof_form.specs.Predicates.{plain_predicate_node}
use Rattle.proof_form.specs.PredicateReading.{with_parts}
use Rattle.proof_form.specs.Ties.TreeViews.{part, built}
use Rattle.proof_form.proofs.BuiltLaws.{Reached}
use Rattle.proof_form.proofs.predicates.nodes_of.Given as goal

abbrev pub invariant-loop-piece : goal.invariant-loop-piece
invariant-loop-piece l = Reached with_parts (map (part plain_predicate_node) l.pieces.items) (built plain_predicate_node l.counts.items l.nodes.items) (map (part plain_predicate_node) l.fn.pieces.items)

abbrev pub decreases-loop-piece : goal.decreases-loop-piece
decreases-loop-piece l = vec_len l.pieces
