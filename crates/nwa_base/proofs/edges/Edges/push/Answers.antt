use Rattle.std.proofs.Common.{◌∙◌, ap, ◌++◌, ◌∷◌, []}
use Rattle.nwa_base.proofs.EdgeLemmas.{indexed_push, indexed_stays, drop_undoes}
use Rattle.nwa_base.proofs.edges.Edges.push.Goals as goal

pub invariant_of-self-in-Err : goal.invariant_of-self-in-Err
invariant_of-self-in-Err c =
    indexed_stays _ _ _ _ _ _ c.self.invariant c.reserve.ensures.items
    (drop_undoes c.args.edge.0 c.args.edge _ _ _ c.in_ok-add.ensures.ok c.drop_last.ensures) c.in-Err.ensures.err

pub invariant_of-self-2 : goal.invariant_of-self-2
invariant_of-self-2 c =
    indexed_push _ _ _ _ _ _ c.args.edge c.self.invariant
    (c.push_reserved.ensures.items ∙ ap (λ l. l ++ c.args.edge ∷ []) c.reserve.ensures.items) c.in_ok-add.ensures.ok c.in_default.ensures.ok
