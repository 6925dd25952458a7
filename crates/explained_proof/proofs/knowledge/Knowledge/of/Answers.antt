use Rattle.std.proofs.Common.{refl}
use Rattle.explained_proof.proofs.KnowledgeLaws.{known_same, predicates_same}
use Rattle.explained_proof.proofs.knowledge.Knowledge.of.Goals as goal

pub returns : goal.returns
returns c =
    known_same _ _ (predicates_same c.args.icfg.now c.args.annotation.now c.in_ok-predicates.predicates.items c.in_ok-predicates.ensures) (λ n. refl) c.in_ok-entered.ensures c.in_ok-standing.ensures
