-- The graph of a program text is one.
use Rattle.std.proofs.Common.{ℕ, List, subst}
use Rattle.typed_tree.specs.TypedTree.{TypedProgram}
use Rattle.letter_acts.specs.Invariant.{Graph, IsGraph}
use Rattle.letter_acts.specs.Kept.{Keeps}
use Rattle.lowered_graph.specs.Lowered.{lowered}
use Rattle.text_reports.specs.Answers.{IsGraphOfText}
use Rattle.text_reports.proofs.TypedTexts.{one_typed}
use Rattle.automizer_top.specs.Ties.Answers.{TextIsGraph}

kept_graph : (g : Graph) → Keeps g → IsGraph g
unfolding Keeps
kept_graph g k = k

-- the graph that the text has is that of the program that it means
pub text_is_graph : (entry text : List ℕ) (g : Graph) → IsGraphOfText entry text g → TextIsGraph entry text
text_is_graph entry text g h = λ t w.
    subst (λ (x : TypedProgram). IsGraph (lowered x)) (one_typed entry text t h.meant w h.typed) (subst IsGraph h.of_program.value (kept_graph g h.kept))
